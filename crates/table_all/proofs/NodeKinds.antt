-- The kinds while they are filled: the table has those of the first i nodes. Assumes nothing.
use mathlib.Core.Path.{◌≡◌, sym, ◌∙◌}
use mathlib.Core.Logic.{by_cases}
use mathlib.Core.List.{List}
use Prim.Native.Nat.{ℕ, ◌+◌, ◌<◌}
use native.Mathlib.Decide.{ℕ_discrete}
use native.Mathlib.Omega.{arith}
use lib.ListN.{length, get_or, set, length-set}
use lib.Seq.{get_or-set_same, get_or-set_other}
use Rattle.plan_format.specs.Format.{node_count, kind_of}
use Rattle.plan_rules.specs.Rules.{refusal}
use Rattle.plan_check.specs.Meaning.{plan_of}
use Rattle.plan_check.proofs.Meaning.{means}
use Rattle.tables.specs.Represents.{RepresentsKinds}

pub record Kinds (b kinds : List ℕ) (i : ℕ) : Type 0 where
  pub long : length kinds ≡ 128
  pub is : (j : ℕ) → j < i → get_or kinds j 0 ≡ kind_of b j

pub kinds_none : {b kinds : List ℕ} → length kinds ≡ 128 → Kinds b kinds 0
kinds_none l = record { long = l; is = λ j m. absurd (omega arith) }

pub kinds_more : {b c : List ℕ} {i v : ℕ} → i < 128 → v ≡ kind_of b i → Kinds b c i → Kinds b (set c i v) (i + 1)
kinds_more {c = c} {i = i} {v = v} l e h =
    record {
      long = length-set c i v ∙ h.long;
      is = λ j m.
          by_cases (ℕ_discrete j i) (λ (q : j ≡ i). rw q (get_or-set_same c i v 0 (omega (arith, h.long)) ∙ e))
          (λ n. get_or-set_other c i j v 0 n ∙ h.is j (omega arith));
    }

pub kinds_all : {b kinds : List ℕ} → refusal b ≡ 0 → Kinds b kinds (node_count b) → RepresentsKinds kinds (plan_of b)
kinds_all {b} r h =
    let a = means b r in
    record {
      is = λ i m. let l : i < node_count b = omega (arith, (a.accepted.nodes i).0 m, a.size) in h.is i l
          ∙ sym (a.kind i l);
    }
