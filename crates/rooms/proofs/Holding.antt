-- Lists by value.
use Rattle.std.proofs.Common.{◌≡◌, ℕ, ◌≤◌, List, ◌++◌, length, take, drop, ◌∙◌, arith, Some, None, Option, MatchOption}
use Rattle.std.specs.List.Sorted.{IsPermutation}
use Rattle.std.proofs.lemmas.List.{length-take, length-take-le, take_at}
use Rattle.std.proofs.lemmas.List.Sorted.{length_permutation}
use Rattle.rooms.specs.Few.{items_of}
use Rattle.rooms.specs.declared.few.Few.{Few}

-- it holds at most as many as its type says
pub items_few : {T : Type 0} {n : ℕ} → (x : Few T n) → length (items_of x) ≤ n
unfolding items_of
items_few x = omega (arith, length-take x.len x.held, x.few)

-- where its first places are put in order, those are all that it holds
pub front_sorted : (n : ℕ) (held sorted : List ℕ) → n ≤ length held → IsPermutation (take n held) sorted → take n (sorted ++ drop n held) ≡ sorted
front_sorted n held sorted few same = take_at sorted (drop n held) n (length_permutation (take n held) sorted same ∙ length-take-le n held few)

-- one thing more is held, where there is a place left
pub pushed : {P Q : Type 0} → (o : Option (Unit {0})) → MatchOption o P (λ _. Q) → (P → ⊥) → Q
pushed None h left = absurd (left h)
pushed (Some done) h left = h
