-- How a walk goes on: the squares found so far, and the marks on the squares that were seen.
use Rattle.std.specs.Prelude.{◌≡◌, ℕ, ◌+◌, ◌<◌, ◌≤◌, Bool, true, false, ◌⊎◌, List, [], ◌∷◌, length, Some, None, Option, slice_index, slice_index_or}
use Rattle.std.specs.List.{ContainsAt as Has, AllByRecursion as Every}
use Rattle.board.specs.Grid.{Grid, free, Next, free_count}
use Rattle.board.specs.Ways.{Toward}
use Rattle.board.specs.declared.ways.Way.{Way}
use Rattle.board.specs.declared.ways.Way.TheVariants.{Up, Left, Right, Down}
use Rattle.rooms.specs.Walks.{Walk, Rise, Apart}
use Rattle.rooms.specs.Rooms.{Many}

-- is square q marked
abbrev pub marked : List Bool → ℕ → Bool
marked seen q = slice_index_or seen q false

-- qs were found from p, where the marks were old and are seen: p among them, none twice, all free, reached from p and new; the marks are the old ones and these
pub record Grown (b : Grid) (p : ℕ) (old seen : List Bool) (qs : List ℕ) : Type 0 where
  pub start : Has qs p
  pub apart : Apart qs
  pub open_squares : Every (λ q. free b q ≡ true) qs
  pub reached : Every (Walk b p) qs
  pub fresh : Every (λ q. marked old q ≡ false) qs
  pub shown : Every (λ q. marked seen q ≡ true) qs
  pub marks : (q : ℕ) → marked seen q ≡ true → (marked old q ≡ true) ⊎ Has qs q
  pub kept : (q : ℕ) → marked old q ≡ true → marked seen q ≡ true
  pub counted : free_count seen ≡ free_count old + length qs

-- the free squares that lie some ways from a square were all looked at: what was found from any start has grown by those that were new
pub record Visited (b : Grid) (from : ℕ) (ways : List Way) (seen seen' : List Bool) (qs qs' : List ℕ) : Type 0 where
  pub longer : length qs ≤ length qs'
  pub same : (k : ℕ) → k < length qs → slice_index qs' k ≡ slice_index qs k
  pub kept : (q : ℕ) → marked seen q ≡ true → marked seen' q ≡ true
  pub settled : Every (λ w. (q : ℕ) → Toward b w from q → free b q ≡ true → marked seen' q ≡ true) ways
  pub grown : (p : ℕ) (old : List Bool) → Grown b p old seen qs → Has qs from → Grown b p old seen' qs'

-- the ways in which a visit looks
abbrev pub all_ways : List Way
all_ways = Up ∷ Left ∷ Right ∷ Down ∷ []

-- a visit to a square, when qs were found: now qs' are; or there is no place left, and more than 16 are reached
unfoldable pub Visit : Grid → ℕ → List Bool → List Bool → List ℕ → List ℕ → Option (Unit {0}) → Type 0
Visit b from seen seen' qs qs' None = (p : ℕ) (old : List Bool) → Grown b p old seen qs → Has qs from → Many 16 b p
Visit b from seen seen' qs qs' (Some done) = Visited b from all_ways seen seen' qs qs'

-- the walk from p is at its end: qs, in rising order, are all that was found, and their free neighbours are marked
pub record Ended (b : Grid) (p : ℕ) (old seen : List Bool) (qs : List ℕ) : Type 0 where
  pub grown : Grown b p old seen qs
  pub rising : Rise (λ q. q) qs
  pub settled : (q r : ℕ) → Has qs q → Next b q r → free b r ≡ true → marked seen r ≡ true
