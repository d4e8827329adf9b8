-- The pairs of the numbers that pass a test, in turn. Assumes nothing.
use Rattle.std.proofs.Common.{◌≡◌, ℕ, zero, suc, ◌+◌, Bool, true, false, cond, List, [], ◌∷◌, sym, refl, ap, ◌∙◌}
use Rattle.std.proofs.Common.{append-nil, arith}
use Rattle.base.specs.Count.{num, count_below}
use Rattle.base.specs.Each.{each}
use Rattle.base.proofs.Each.{each_more, each_same}
use Rattle.plan_draws.specs.Model.{pick}
use Rattle.plan_draws.proofs.Picked.{pick_new, pick_stays}

-- of those below n the ones that pass a test, by their numbers or in turn
module _ (q : ℕ → Bool) (f : ℕ → ℕ × ℕ) where
  abbrev picked_pair : ℕ → ℕ → List (ℕ × ℕ)
  picked_pair n m = f (pick q n m) ∷ []

  abbrev passing : ℕ → List (ℕ × ℕ)
  passing i = cond (q i) (f i ∷ []) []

  -- one more number n, where those below it are right
  module _ (n : ℕ) (right : each (picked_pair n) 0 (count_below n q) ≡ each passing 0 n) where
    before : each (picked_pair (suc n)) 0 (count_below n q) ≡ each passing 0 n
    before = each_same (picked_pair (suc n)) (picked_pair n) 0 (count_below n q)
        (λ m l u. ap (λ (k : ℕ). f k ∷ []) (pick_stays q n (suc n) m (omega arith) (omega arith)))
        ∙ right

    passes : q n ≡ true → each (picked_pair (suc n)) 0 (suc (count_below n q)) ≡ each passing 0 (suc n)
    passes e =
        let x : 0 + count_below n q ≡ count_below n q = omega arith in
        let y : 0 + n ≡ n = omega arith in
        each_more (picked_pair (suc n)) 0 (count_below n q)
        ∙ rw (x, pick_new q n e, before) (sym (rw (y, e) at (each_more passing 0 n)))

    fails : q n ≡ false → each (picked_pair (suc n)) 0 (count_below n q) ≡ each passing 0 (suc n)
    fails e = let y : 0 + n ≡ n = omega arith in
        before ∙ sym (rw (y, e, append-nil) at (each_more passing 0 n))

    picked_more : (b : Bool) → q n ≡ b → each (picked_pair (suc n)) 0 (count_below n q + num b) ≡ each passing 0 (suc n)
    picked_more true e = let x : count_below n q + 1 ≡ suc (count_below n q) = omega arith in rw x (passes e)
    picked_more false e = let x : count_below n q + 0 ≡ count_below n q = omega arith in rw x (fails e)

  pub each_picked : (n : ℕ) → each (λ m. f (pick q n m) ∷ []) 0 (count_below n q)
      ≡ each (λ i. cond (q i) (f i ∷ []) []) 0 n
  unfolding count_below
  each_picked zero = refl
  each_picked (suc n) = picked_more n (each_picked n) (q n) refl
