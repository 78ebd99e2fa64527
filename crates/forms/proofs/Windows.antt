-- Parts of the lent options before and after a row is written.
use Rattle.std.proofs.Common.{◌≡◌, ℕ, ◌+◌, ◌-◌, ◌*◌, ◌≤◌, true, false, List, ◌++◌, length, take, drop, sym, ap, ◌∙◌, arith}
use borrow.Rule.Slice.PartMut.{put_mid}
use Rattle.std.proofs.lemmas.List.{take-take, drop-take, drop-drop, take_at, length-take, length-drop, length-append}
use Rattle.std.proofs.lemmas.Slice.{take-put_mid_below, between-put_mid}
use Rattle.games.specs.Game.{Side}
use Rattle.forms.specs.Rows.{place, row_for}

-- lists that begin alike have the same parts there
pub window_same : (n p m : ℕ) (xs ys : List ℕ) → take n xs ≡ take n ys → p + m ≤ n → take m (drop p xs) ≡ take m (drop p ys)
window_same n p m xs ys e h =
    let within : (zs : List ℕ) → take m (drop p zs) ≡ drop p (take (p + m) (take n zs)) = λ zs. sym (drop-take p m zs) ∙ ap (drop p) (sym (take-take (p + m) n zs h)) in
    within xs ∙ ap (λ zs. drop p (take (p + m) zs)) e ∙ sym (within ys)

-- the two rows as they are written into the 32 places of a form
module _ (us ls at : List ℕ) (long : length at ≡ 32) (few : length us ≤ 16) (few' : length ls ≤ 16) where
  first : (zs : List ℕ) → zs ≡ us → length (zs ++ drop (length us) at) ≡ 32
  first zs e = simp (length-append, length-drop) (let l = ap length e in omega arith)

  pub wrote_upright : (zs ws : List ℕ) → zs ≡ us → take (length us) (put_mid 16 (16 + length ls - 16) (zs ++ drop (length us) at) ws) ≡ us
  wrote_upright zs ws e =
      let l = first zs e in
      take-put_mid_below 16 (16 + length ls - 16) (zs ++ drop (length us) at) ws (length us) few (omega arith) ∙ take_at zs (drop (length us) at) (length us) (ap length e) ∙ e

  pub wrote_flat : (zs ws : List ℕ) → zs ≡ us → ws ≡ ls → take (length ls) (drop 16 (put_mid 16 (16 + length ls - 16) (zs ++ drop (length us) at) ws)) ≡ ls
  wrote_flat zs ws e f =
      let l = first zs e in
      let k : 16 + length ls - 16 ≡ length ls = omega arith in
      let m : length ws ≡ 16 + length ls - 16 = ap length f ∙ sym k in
      ap (λ n. take n (drop 16 (put_mid 16 (16 + length ls - 16) (zs ++ drop (length us) at) ws))) (sym k)
      ∙ between-put_mid 16 (16 + length ls - 16) (zs ++ drop (length us) at) ws (16 + length ls) (omega arith) m
      ∙ f

-- the 32 places of form n
pub part_long : (n : ℕ) (os : List ℕ) → 32 * n + 32 ≤ length os → length (take (32 * n + 32 - 32 * n) (drop (32 * n) os)) ≡ 32
part_long n os room = simp (length-take, length-drop) (omega arith)

-- and those places in the lent options
module _ (n : ℕ) (os at : List ℕ) (room : 32 * n + 32 ≤ length os) (long : length at ≡ 32) where
  pub before_put : take (32 * n) (put_mid (32 * n) (32 * n + 32 - 32 * n) os at) ≡ take (32 * n) os
  before_put = take-put_mid_below (32 * n) (32 * n + 32 - 32 * n) os at (32 * n) (omega arith) (omega arith)

  pub length_put : length (put_mid (32 * n) (32 * n + 32 - 32 * n) os at) ≡ length os
  length_put = simp (length-append, length-take, length-drop) (omega arith)

  at_put : take 32 (drop (32 * n) (put_mid (32 * n) (32 * n + 32 - 32 * n) os at)) ≡ at
  at_put =
      let k : 32 * n + 32 - 32 * n ≡ 32 = omega arith in
      ap (λ m. take m (drop (32 * n) (put_mid (32 * n) (32 * n + 32 - 32 * n) os at))) (sym k)
      ∙ between-put_mid (32 * n) (32 * n + 32 - 32 * n) os at (32 * n + 32) (omega arith) (long ∙ sym k)

  pub row_put : (us ls : List ℕ) → length us ≤ 16 → length ls ≤ 16 → take (length us) at ≡ us → take (length ls) (drop 16 at) ≡ ls →
      (s : Side) → take (length (row_for s us ls)) (drop (place s n) (put_mid (32 * n) (32 * n + 32 - 32 * n) os at)) ≡ row_for s us ls
  row_put us ls few few' up down true =
      let all = put_mid (32 * n) (32 * n + 32 - 32 * n) os at in
      sym (take-take (length us) 32 (drop (32 * n) all) (omega arith)) ∙ ap (take (length us)) at_put ∙ up
  row_put us ls few few' up down false =
      let all = put_mid (32 * n) (32 * n + 32 - 32 * n) os at in
      ap (take (length ls)) (sym (drop-drop 16 (32 * n) all))
      ∙ sym (window_same 32 16 (length ls) (take 32 (drop (32 * n) all)) (drop (32 * n) all) (take-take 32 32 (drop (32 * n) all) (omega arith)) (omega arith))
      ∙ ap (λ xs. take (length ls) (drop 16 xs)) at_put
      ∙ down
