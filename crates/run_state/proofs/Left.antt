-- The state that `fresh` leaves. Assumes nothing.
use mathlib.Core.Path.{◌≡◌, sym, ap, ◌∙◌}
use mathlib.Core.Logic.{by_cases}
use mathlib.Core.List.{List, ◌++◌}
use Prim.Native.Nat.{ℕ, ◌+◌, ◌*◌, ◌-◌, ◌<◌, ◌≤◌}
use native.Mathlib.Decide.{dec_lt}
use native.Mathlib.Omega.{arith}
use mathlib.Core.Bool.{cond}
use lib.Dec.{ltb}
use lib.ListN.{length, take, drop, replicate, get_or}
use borrow.Rule.Slice.PartMut.{put_mid}
use Rattle.std.proofs.lemmas.Grind.{get_or_default_zero}
use Rattle.std.proofs.lemmas.List.{length-append, length-replicate, length-drop, length-take-le, get_or_append_left}
use Rattle.std.proofs.lemmas.List.{get_or-append_right, get_or-replicate, get_or-drop, get_or-take, take_at, drop_at}
use Rattle.std.proofs.lemmas.List.{drop-drop, same_lists}
use borrow.Author.Tests.{eq-eqb, ne_eqb, lt-ltb, le-ltb}
use Rattle.base.proofs.Overlay.{length_overlay, at_overlay, past_overlay}
use Rattle.base.specs.Answers.{overlay}
use Rattle.plan_format.specs.Format.{node_count}
use Rattle.run_state.specs.State.{room_refusal_under}
use Rattle.run_state.specs.Fresh.{fresh_byte, fresh_state}

-- m elements that are copied, and then zeros up to n
module _ (ys s : List ℕ) (m n : ℕ) (e : length ys ≡ m) (l : m ≤ n) (r : n ≤ length s) where
  left_is : put_mid m (n - m) (ys ++ drop m s) (replicate (n - m) 0) ≡ ys ++ (replicate (n - m) 0 ++ drop n s)
  left_is =
      let z : m + (n - m) ≡ n = omega arith in
      rw (take_at ys (drop m s) m e, drop_at ys (drop m s) m e, drop-drop (n - m) m s, z)

  at_left : (k : ℕ) → get_or (ys ++ (replicate (n - m) 0 ++ drop n s)) k 0
      ≡ cond (ltb k m) (get_or ys k 0) (cond (ltb k n) 0 (get_or s k 0))
  at_left k = let zs : List ℕ = replicate (n - m) 0 in by_cases (dec_lt k m)
      (λ (i : k < m). rw (lt-ltb k m i) (get_or_append_left ys (zs ++ drop n s) 0 k (omega arith)))
      (λ i. rw (le-ltb k m (omega arith), get_or-append_right ys (zs ++ drop n s) m k 0 e (omega arith))
      (by_cases (dec_lt k n)
      (λ (j : k < n). let u : k - m < n - m = omega arith in rw (lt-ltb k n j)
      (get_or_append_left zs (drop n s) 0 (k - m) (rw length-replicate u) ∙ get_or-replicate (n - m) (k - m) 0 0 u))
      (λ j. let u : n + (k - m - (n - m)) ≡ k = omega arith in rw (
        le-ltb k n (omega arith),
        get_or-append_right zs (drop n s) (n - m) (k - m) 0 (length-replicate _ _) (omega arith),
        get_or-drop n s (k - m - (n - m)) 0,
        u,
      ))))

  module _ (f : ℕ → ℕ) (below : (k : ℕ) → k < m → get_or ys k 0 ≡ f k) (above : (k : ℕ) → m ≤ k → 0 ≡ f k) where
    at_each : (k : ℕ) → cond (ltb k m) (get_or ys k 0) (cond (ltb k n) 0 (get_or s k 0)) ≡ get_or (overlay f n s) k 0
    at_each k = by_cases (dec_lt k n)
        (λ (j : k < n). sym (rw (at_overlay f s n k r j, lt-ltb k n j) (by_cases (dec_lt k m)
        (λ (i : k < m). rw (lt-ltb k m i, below k i))
        (λ i. rw (le-ltb k m (omega arith), above k (omega arith))))))
        (λ j. rw (le-ltb k m (omega arith), le-ltb k n (omega arith), past_overlay f s n k (omega arith)))

    pub filled : put_mid m (n - m) (ys ++ drop m s) (replicate (n - m) 0) ≡ overlay f n s
    filled =
        let xs = ys ++ (replicate (n - m) 0 ++ drop n s) in
        let h : length xs ≡ length (overlay f n s) = omega (
          arith,
          length_overlay f s n,
          length-append ys (replicate (n - m) 0 ++ drop n s),
          length-append (replicate (n - m) 0) (drop n s),
          length-replicate {A = ℕ} (n - m) 0,
          length-drop n s,
        ) in
        left_is ∙ same_lists xs (overlay f n s) h (λ k d i. get_or_default_zero xs k d i ∙ at_left k
        ∙ at_each k ∙ sym (get_or_default_zero (overlay f n s) k d (rw h at i)))

-- the eight bytes that are copied, and the zeros after them
pub written : (b s ys zs : List ℕ) (n : ℕ) → 8 ≤ n → n ≤ length s → 16 ≤ length b
    → ys ≡ take 8 (drop 8 b) → zs ≡ replicate (length zs) 0 → length zs ≡ n - 8
    → put_mid 8 (n - 8) (ys ++ drop 8 s) zs ≡ overlay (fresh_byte b) n s
unfolding fresh_byte
written b s ys zs n l r h ey ez e = rw (ez, e) (filled ys s 8 n
    (ap length ey ∙ length-take-le 8 (drop 8 b) (omega (arith, length-drop 8 b))) l r (fresh_byte b)
    (λ k i. rw (ey, lt-ltb k 8 i) (get_or-take 8 (drop 8 b) k 0 i ∙ get_or-drop 8 b k 0))
    (λ k i. rw (le-ltb k 8 i)))

module _ (b xs s : List ℕ) where
  pub fresh_refused : (room_refusal_under b xs s ≡ 0 → ⊥) → s ≡ fresh_state b xs s
  unfolding fresh_state
  fresh_refused n = rw (ne_eqb (room_refusal_under b xs s) 0 n)

  pub fresh_accepted : room_refusal_under b xs s ≡ 0
      → overlay (fresh_byte b) (8 + 3 * node_count b) s ≡ fresh_state b xs s
  unfolding fresh_state
  fresh_accepted e = rw (eq-eqb (room_refusal_under b xs s) 0 e)
