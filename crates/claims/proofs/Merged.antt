-- The plan merged from two is CLEAR exactly as 02 says, and is one. Assumes nothing.
use mathlib.Core.Path.{◌≡◌, refl}
use mathlib.Core.Logic.{inr, ◌↔◌}
use mathlib.Core.List.{List, []}
use Prim.Native.Nat.{ℕ}
use Rattle.plan_rules.specs.Rules.{refusal}
use Rattle.plan_check.specs.Meaning.{plan_of, start_of}
use Rattle.runs.specs.Verdict.{CLEAR, Clear}
use Rattle.verdict.specs.Verdict.{Answer, said, Assessed}
use Rattle.plan_merge.proofs.Only.{merged_only}
use Rattle.plan_merge.proofs.Left.{left_accepted}
use Rattle.claims.specs.Merged.{MergedClear, OneMerged}
use Rattle.claims.proofs.Left.{lists_read}

-- of an accepted plan `assess` says CLEAR exactly if it is
says_clear : (b : List ℕ) → refusal b ≡ 0 → (a : Answer) → Assessed b [] a
    → (said a ≡ inr CLEAR) ↔ Clear (plan_of b) (start_of b)
says_clear b e a h = let (p, q) = (lists_read b).whole e in rw p at (h.judged q CLEAR)

pub merged_clear : MergedClear
merged_clear b c out out' n m x y z hx hy hz = (
  λ e. let k = (m.clear n refl).0 ((says_clear _ (left_accepted m).2 z hz).0 e) in (
    (says_clear b (left_accepted m).0 x hx).1 k.first_clear,
    (says_clear c (left_accepted m).1 y hy).1 k.second_clear,
    k.none_collide,
  ),
  λ e. (says_clear _ (left_accepted m).2 z hz).1 ((m.clear n refl).1 (record {
    first_clear = (says_clear b (left_accepted m).0 x hx).0 e.0;
    second_clear = (says_clear c (left_accepted m).1 y hy).0 e.1;
    none_collide = e.2;
  })),
)

pub one_merged : OneMerged
one_merged = merged_only
