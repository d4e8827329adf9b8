-- The longest waits, from the root down. Assumes nothing.
use mathlib.Core.Path.{◌≡◌, sym, ap, ◌∙◌}
use mathlib.Core.Logic.{by_cases}
use mathlib.Core.List.{List}
use Prim.Native.Nat.{ℕ, ◌+◌, ◌<◌, ◌≤◌}
use native.Mathlib.Decide.{ℕ_discrete}
use native.Mathlib.Omega.{arith}
use lib.ListN.{length, get_or, set, length-set}
use lib.Seq.{get_or-set_same, get_or-set_other}
use Rattle.plan_format.specs.Format.{node_count, parent_of}
use Rattle.plan_check.proofs.Accepted.{Clean}
use Rattle.plan_rules.proofs.Causes.{parent_group}
use Rattle.wait_lengths.specs.Waits.{wait_within, longest_wait}
use Rattle.wait_tree.specs.Filled.{WaitsWithin, Longest}
use Rattle.wait_lengths.proofs.Bounds.{wait_root, longest_root, longest_child}

-- ---- from the root down: the longest waits below c, the waits within their groups from c on
pub record Down (b waits : List ℕ) (c : ℕ) : Type 0 where
  pub some : 0 < c
  pub inside : c ≤ node_count b
  pub long : length waits ≡ 128
  pub below : (n : ℕ) → n < c → get_or waits n 0 ≡ longest_wait b n
  pub from : (n : ℕ) → c ≤ n → n < node_count b → get_or waits n 0 ≡ wait_within b n

module _ {b waits : List ℕ} (ok : Clean b) where
  pub down_none : WaitsWithin b waits → Down b waits 1
  down_none h = record {
    some = omega arith;
    inside = ok.fits.limits.some_node;
    long = h.long;
    below = λ n l. let e : n ≡ 0 = omega arith in
        rw e (h.is 0 ok.fits.limits.some_node ∙ wait_root b ok ∙ sym (longest_root b ok));
    from = λ n l m. h.is n m;
  }

  -- what is added up at c
  pub down_sum : {c p : ℕ} → p ≡ parent_of b c → c < node_count b → Down b waits c
      → (p < 128) × (get_or waits p 0 + get_or waits c 0 ≡ longest_wait b c)
  down_sum {c} {p} e l h =
      let q = (parent_group b ok.fits ok.parents c h.some l).0 in (
        omega (arith, ok.fits.limits.nodes),
        omega (
          arith,
          h.below p (omega arith),
          h.from c (omega arith) l,
          longest_child b ok c h.some l,
          ap (longest_wait b) e,
        ),
      )

  pub down_more : {c v : ℕ} → c < node_count b → v ≡ longest_wait b c → Down b waits c → Down b (set waits c v) (c + 1)
  down_more {c} {v} l e h = record {
    some = omega arith;
    inside = omega arith;
    long = length-set waits c v ∙ h.long;
    below = λ n m. by_cases (ℕ_discrete n c)
        (λ (y : n ≡ c). rw y (get_or-set_same waits c v 0 (omega (arith, h.long, ok.fits.limits.nodes)) ∙ e))
        (λ y. get_or-set_other waits c n v 0 y ∙ h.below n (omega arith));
    from = λ n m q. get_or-set_other waits c n v 0 (λ y. omega arith) ∙ h.from n (omega arith) q;
  }

  pub down_all : {c : ℕ} → node_count b ≤ c → Down b waits c → Longest b waits
  down_all l h = record { long = h.long; is = λ n m. h.below n (omega arith) }
