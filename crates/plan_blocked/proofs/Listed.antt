-- 28: numbers that are not those of branches. Assumes nothing.
use mathlib.Core.Path.{◌≡◌, refl, sym, ap}
use mathlib.Core.Bool.{Bool, true, false, not, ◌||◌}
use mathlib.Core.List.{List}
use Prim.Native.Nat.{ℕ, zero, suc, ◌<◌, ◌≤◌}
use native.Mathlib.Omega.{arith}
use lib.Dec.{eqb}
use borrow.Author.Tests.{eq-eqb, ne_eqb, lt-ltb, le-ltb}
use Rattle.plan_format.specs.Format.{node_count, kind_of, parent_of, is_kind}
use Rattle.plan_rules.specs.Rules.{refusal}
use Rattle.plan_rules.proofs.Causes.{parent_group}
use Rattle.plan_check.specs.Meaning.{kind_at, plan_of}
use Rattle.plan_check.proofs.Accepted.{clean}
use Rattle.plan_check.proofs.Meaning.{kind_limit}
use Rattle.runs.specs.Tests.{negate}
use Rattle.runs.specs.Searches.{either, any_in}
use Rattle.runs.specs.Model.Trees.{picks_b}
use Rattle.runs.specs.Model.Monitor.{rising_b}
use Rattle.runs.specs.Model.Blocked.{unblockable_b, refused28_b}

either_yes : (x : Bool) → either x (λ u. true) ≡ true
unfolding either
either_yes true = refl
either_yes false = refl

picks : (k : ℕ) → k ≤ 3 → (eqb k 2 || eqb k 3) ≡ picks_b (kind_at k)
unfolding picks_b kind_at
picks zero l = refl
picks (suc zero) l = refl
picks (suc (suc zero)) l = refl
picks (suc (suc (suc zero))) l = refl
picks (suc (suc (suc (suc k)))) l = absurd (omega arith)

module _ (b : List ℕ) (s : ℕ) where
  -- the root; no node
  pub root : s ≡ 0 → true ≡ unblockable_b (plan_of b) s
  unfolding unblockable_b either
  root e = rw (eq-eqb s 0 e)

  pub outside : node_count b ≤ s → true ≡ unblockable_b (plan_of b) s
  unfolding unblockable_b either negate plan_of
  outside l = rw (le-ltb s (node_count b) l) (sym (either_yes (eqb s 0)))

  -- another node: by its parent's kind
  pub inside : refusal b ≡ 0 → 0 < s → s < node_count b → (g : ℕ) → g ≡ parent_of b s
      → not (is_kind b g 2 || is_kind b g 3) ≡ unblockable_b (plan_of b) s
  unfolding unblockable_b either negate plan_of is_kind
  inside ok z l g e =
      let c = clean b ok in
      let m : g < s = omega (arith, e, (parent_group b c.fits c.parents s z l).0) in
      let k : kind_of b g ≤ 3 = kind_limit b c g (omega arith) in
      rw (ne_eqb s 0 (λ q. omega (arith, q)), lt-ltb s (node_count b) l, sym e, lt-ltb g (node_count b) (omega arith))
      (ap not (picks (kind_of b g) k))

-- 28 of a list that rises, and of one that does not
module _ (b xs : List ℕ) where
  pub rising_28 : rising_b xs ≡ true → any_in xs (unblockable_b (plan_of b)) ≡ refused28_b (plan_of b) xs
  unfolding refused28_b either negate
  rising_28 e = rw e

  pub falling_28 : rising_b xs ≡ false → true ≡ refused28_b (plan_of b) xs
  unfolding refused28_b either negate
  falling_28 e = rw e
