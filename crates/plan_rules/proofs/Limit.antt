-- The causes are numbered to 14. Assumes nothing.
use mathlib.Core.List.{List}
use Prim.Native.Nat.{ℕ, ◌≤◌}
use native.Mathlib.Omega.{arith}
use Rattle.base.proofs.First.{cond_limit}
use Rattle.plan_rules.specs.Rules.{refusal, cause1, cause2, cause3, cause4, cause5, cause6, cause7, cause8}
use Rattle.plan_rules.specs.Rules.{cause9, cause10, cause11, cause12, cause13, cause14}

pub refusal_limit : (b : List ℕ) → refusal b ≤ 14
unfolding refusal
refusal_limit b =
    cond_limit 14 (cause1 b) 1 _ (omega arith)
    (cond_limit 14 (cause2 b) 2 _ (omega arith)
    (cond_limit 14 (cause3 b) 3 _ (omega arith)
    (cond_limit 14 (cause4 b) 4 _ (omega arith)
    (cond_limit 14 (cause5 b) 5 _ (omega arith)
    (cond_limit 14 (cause6 b) 6 _ (omega arith)
    (cond_limit 14 (cause7 b) 7 _ (omega arith)
    (cond_limit 14 (cause8 b) 8 _ (omega arith)
    (cond_limit 14 (cause9 b) 9 _ (omega arith)
    (cond_limit 14 (cause10 b) 10 _ (omega arith)
    (cond_limit 14 (cause11 b) 11 _ (omega arith)
    (cond_limit 14 (cause12 b) 12 _ (omega arith)
    (cond_limit 14 (cause13 b) 13 _ (omega arith)
    (cond_limit 14 (cause14 b) 14 0 (omega arith) (omega arith))))))))))))))
