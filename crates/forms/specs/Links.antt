-- A table in lent memory: sound rows in use, and the links by which a row is looked up.
use Rattle.std.specs.Prelude.{ℕ, suc, ◌+◌, ◌*◌, ◌%◌, ◌<◌, ◌≤◌, true, false, List, [], ◌∷◌, Option, None, Some, length, take, slice_index_or}
use Rattle.forms.specs.declared.rows.Form.{Form}
use Rattle.forms.specs.Rows.{blank, row_of}
use Rattle.forms.specs.Soundness.{Sound}

-- a row mixed into a number, entry by entry
abbrev pub mixed : ℕ → List ℕ → ℕ
mixed h [] = h
mixed h (x ∷ xs) = mixed ((h * 40503 + x + 1) % 65521) xs

-- the bucket of two rows, of so many buckets
unfoldable pub bucket_of : ℕ → List ℕ → List ℕ → ℕ
bucket_of size us ls = mixed (mixed (length us % 65521) us) ls % size

-- a link as a number: 0 where it leads nowhere, or one more than the form's number
abbrev pub link_number : Option ℕ → ℕ
link_number None = 0
link_number (Some k) = suc k

-- the link from a bucket to its last form
abbrev pub head_of : List Form → ℕ → ℕ
head_of fs b = link_number (slice_index_or fs b blank).head

-- the link from a form to the one before it in its bucket
abbrev pub next_at : List Form → ℕ → ℕ
next_at fs k = link_number (slice_index_or fs k blank).next

-- a link leads to form k
pub data Leads (fs : List Form) (k : ℕ) : ℕ → Type 0 where
  here : Leads fs k (suc k)
  on : (j : ℕ) → Leads fs k (next_at fs j) → Leads fs k (suc j)

-- n forms are in use and sound; each is linked from its bucket, and links fall
pub record Table (fs : List Form) (os : List ℕ) (n : ℕ) : Type 0 where
  pub started : 0 < n
  pub within : n ≤ length fs
  pub size : length fs ≤ 16384
  pub space : 32 * length fs ≤ length os
  pub sound : Sound (take n fs) os
  pub heads : (b : ℕ) → b < length fs → head_of fs b ≤ n
  pub falls : (k : ℕ) → k < n → next_at fs k ≤ k
  pub linked : (k : ℕ) → k < n → Leads fs k (head_of fs (bucket_of (length fs) (row_of (take n fs) os true k) (row_of (take n fs) os false k)))
