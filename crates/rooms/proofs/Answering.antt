-- One answer fits a board.
use Rattle.std.proofs.Common.{◌≡◌, ℕ, ◌<◌, ◌≤◌, ◌⊎◌, List, [], length, get_or, Ok, Err, sym, ap, ◌∙◌, inl, inr, ⊎_elim, arith}
use Rattle.std.proofs.ByRecursion.{all-has}
use Rattle.std.proofs.lemmas.Bool.{cases_order}
use Rattle.board.specs.Grid.{Grid}
use Rattle.board.specs.declared.refusal.Refusal.{Refusal}
use Rattle.board.specs.declared.refusal.Refusal.TheVariants as refusal
use Rattle.rooms.specs.Walks.{first}
use Rattle.rooms.specs.Rooms.{OneList, LargerLaw}
use Rattle.rooms.specs.Values.{rooms_of, SmallRooms, FirstLarger, Found, Judged, OneFound, OneJudged}
use Rattle.rooms.proofs.Reach.{one_list, larger_law}

-- what is told of a board without refusal, and with it
same_rooms : (b : Grid) (rs qs : List (List ℕ)) → SmallRooms b rs → SmallRooms b qs → rs ≡ qs
unfolding OneList
same_rooms b rs qs x y = one_list b rs qs x.rooms y.rooms

not_both : (b : Grid) (rs : List (List ℕ)) (p : ℕ) → SmallRooms b rs → FirstLarger b p → ⊥
unfolding LargerLaw
not_both b rs p x y =
    let r = (larger_law 16 b rs (omega arith) x.rooms p).0 y.large in
    let few = all-has (λ t. length t ≤ 16) rs r.0 x.small r.1 in
    omega (arith, r.2)

same_place : (b : Grid) (p q : ℕ) → FirstLarger b p → FirstLarger b q → p ≡ q
same_place b p q x y =
    ⊎_elim (λ e. e) (⊎_elim (λ less. absurd (y.none_before p less x.large)) (λ more. absurd (x.none_before q more y.large))) (cases_order p q)

abbrev Large : Grid → Refusal → Type 0
Large b e = (p : ℕ) × (e ≡ refusal.Room p) × FirstLarger b p

abbrev TooMany : Grid → Refusal → Type 0
TooMany b e = (rs : List (List ℕ)) × SmallRooms b rs × (32 < length rs) × (e ≡ refusal.Rooms (first (get_or rs 32 [])))

same_large : (b : Grid) (e f : Refusal) → Large b e → Large b f → e ≡ f
same_large b e f x y = x.1 ∙ ap refusal.Room (same_place b x.0 y.0 x.2 y.2) ∙ sym y.1

same_many : (b : Grid) (e f : Refusal) → TooMany b e → TooMany b f → e ≡ f
same_many b e f x y = x.3 ∙ ap (λ rs. refusal.Rooms (first (get_or rs 32 []))) (same_rooms b x.0 y.0 x.1 y.1) ∙ sym y.3

pub one_found : OneFound
unfolding OneFound Found
one_found b (Ok x) (Ok y) h k = ap Ok (same_rooms b (rooms_of x) (rooms_of y) h k)
one_found b (Ok x) (Err e) h k = absurd (not_both b (rooms_of x) k.0 h k.2)
one_found b (Err e) (Ok y) h k = absurd (not_both b (rooms_of y) h.0 k h.2)
one_found b (Err e) (Err f) h k = ap Err (same_large b e f h k)

-- few rooms are not refused
refused_not : (b : Grid) (rs : List (List ℕ)) (e : Refusal) → SmallRooms b rs → length rs ≤ 32 → Large b e ⊎ TooMany b e → ⊥
refused_not b rs e x few (inl y) = not_both b rs y.0 x y.2
refused_not b rs e x few (inr y) = let same = ap length (same_rooms b rs y.0 x y.1) in omega (arith, y.2)

pub one_judged : OneJudged
unfolding OneJudged Judged
one_judged b (Ok x) (Ok y) h k = ap Ok (same_rooms b (rooms_of x) (rooms_of y) h.0 k.0)
one_judged b (Ok x) (Err e) h k = absurd (refused_not b (rooms_of x) e h.0 h.1 k)
one_judged b (Err e) (Ok y) h k = absurd (refused_not b (rooms_of y) e k.0 k.1 h)
one_judged b (Err e) (Err f) h k = ap Err (go h k)
  where
    go : Large b e ⊎ TooMany b e → Large b f ⊎ TooMany b f → e ≡ f
    go (inl x) (inl y) = same_large b e f x y
    go (inl x) (inr y) = absurd (not_both b y.0 x.0 y.1 x.2)
    go (inr x) (inl y) = absurd (not_both b x.0 y.0 x.1 y.2)
    go (inr x) (inr y) = same_many b e f x y
