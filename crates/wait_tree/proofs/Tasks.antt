-- The lengths of the tasks, turn by turn. Assumes nothing.
use mathlib.Core.Path.{◌≡◌, sym, ◌∙◌}
use mathlib.Core.Logic.{by_cases}
use mathlib.Core.List.{List}
use Prim.Native.Nat.{ℕ, ◌+◌, ◌<◌, ◌≤◌}
use native.Mathlib.Decide.{ℕ_discrete}
use native.Mathlib.Omega.{arith}
use lib.ListN.{length, get_or, set, length-set}
use lib.Seq.{get_or-set_same, get_or-set_other}
use Rattle.plan_format.specs.Format.{node_count, kind_of, minutes_of}
use Rattle.plan_check.proofs.Accepted.{Clean}
use Rattle.base.specs.Zeros.{Zeros}
use Rattle.wait_lengths.specs.Waits.{length_of}
use Rattle.wait_group.specs.Spread.{Tables}
use Rattle.wait_lengths.proofs.Lengths.{length_task}

-- ---- the lengths of the tasks below t
pub record TasksTo (b lengths : List ℕ) (t : ℕ) : Type 0 where
  pub long : length lengths ≡ 128
  pub is : (i : ℕ) → i < t → kind_of b i ≡ 0 → get_or lengths i 0 ≡ length_of b i

module _ {b lengths : List ℕ} where
  pub tasks_none : length lengths ≡ 128 → TasksTo b lengths 0
  tasks_none e = record { long = e; is = λ i l. absurd (omega arith) }

  pub tasks_more : {t v : ℕ} {l' : List ℕ} → Clean b → t < node_count b → kind_of b t ≡ 0 → v ≡ minutes_of b t
      → l' ≡ set lengths t v → TasksTo b lengths t → TasksTo b l' (t + 1)
  tasks_more {t} {v} ok l k e z h = rw z (record {
    long = length-set lengths t v ∙ h.long;
    is = λ i m q. by_cases (ℕ_discrete i t)
        (λ (y : i ≡ t). rw y (get_or-set_same lengths t v 0 (omega (arith, h.long, ok.fits.limits.nodes)) ∙ e
        ∙ sym (length_task b ok t l k)))
        (λ y. get_or-set_other lengths t i v 0 y ∙ h.is i (omega arith) q);
  })

  pub tasks_skip : {t : ℕ} {l' : List ℕ} → (kind_of b t ≡ 0 → ⊥) → l' ≡ lengths → TasksTo b lengths t
      → TasksTo b l' (t + 1)
  tasks_skip {t} k z h = rw z (record {
    long = h.long;
    is = λ i m q. by_cases (ℕ_discrete i t) (λ (y : i ≡ t). absurd (k (rw y at q))) (λ y. h.is i (omega arith) q);
  })

  pub tasks_all : {waits : List ℕ} {t : ℕ} → Clean b → node_count b ≤ t → Zeros 128 waits → TasksTo b lengths t
      → Tables b lengths waits
  tasks_all ok l z h = record {
    lengths_long = h.long;
    waits_long = z.long;
    tasks = λ i m. h.is i (omega arith);
    within = λ m q. omega (arith, z.zero m (omega (arith, ok.fits.limits.nodes)));
  }
