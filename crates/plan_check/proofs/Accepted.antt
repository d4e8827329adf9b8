-- Bytes whose refusal is 0: no cause applies. Assumes nothing.
use mathlib.Core.Path.{◌≡◌, refl, sym, ◌∙◌}
use mathlib.Core.Bool.{Bool, true, false, cond, true≢false}
use mathlib.Core.List.{List}
use Prim.Native.Nat.{ℕ, ◌<◌}
use native.Mathlib.Omega.{arith}
use lib.ListN.{length}
use lib.Dec.{leb}
use borrow.Author.Tests.{leb-false, ltb-false, eqb-true, not-false}
use Rattle.plan_format.specs.Format.{flag_count, start_flag, whole_length}
use Rattle.plan_format.specs.Whole.{Whole}
use Rattle.plan_rules.specs.Rules.{refusal, cause1, cause2, cause3, bad_start, cause4, cause5, cause6, cause7, cause8}
use Rattle.plan_rules.specs.Rules.{cause9, cause10, cause11, cause12, cause13, cause14}
use Rattle.base.proofs.Booleans.{and_of, not_passed}
use Rattle.runs.proofs.Searches.{none_at}
use Rattle.plan_check.specs.Parts.{from_nodes, from_conditions, from_orders}
use Rattle.plan_rules.proofs.Causes.{limits, whole}

-- what a reader of accepted bytes may rest on
pub record Clean (b : List ℕ) : Type 0 where
  pub fits : Whole b
  pub starts : cause4 b ≡ false
  pub names : cause5 b ≡ false
  pub entries : cause6 b ≡ false
  pub parents : cause7 b ≡ false
  pub children : cause8 b ≡ false
  pub conditions : cause9 b ≡ false
  pub rising : cause10 b ≡ false
  pub signs : cause11 b ≡ false
  pub posts : cause12 b ≡ false
  pub orders : cause13 b ≡ false
  pub rising_orders : cause14 b ≡ false

passed : (t : Bool) (k r : ℕ) → (k ≡ 0 → ⊥) → cond t k r ≡ 0 → (t ≡ false) × (r ≡ 0)
passed true k r n e = absurd (n e)
passed false k r n e = (refl, e)

no_cause_1_2_3 : (b : List ℕ) → refusal b ≡ 0 → Whole b × (from_nodes b ≡ 0)
unfolding refusal from_nodes from_conditions from_orders cause1 cause3
no_cause_1_2_3 b e =
    let p1 = passed (cause1 b) 1 _ (λ z. omega arith) e in
    let p2 = passed (cause2 b) 2 _ (λ z. omega arith) p1.1 in
    let p3 = passed (cause3 b) 3 _ (λ z. omega arith) p2.1 in
    let l = ltb-false (length b) 16 p1.0 in
    (whole b (limits b l p2.0) (eqb-true (length b) (whole_length b) (not-false _ p3.0)), p3.1)

pub clean : (b : List ℕ) → refusal b ≡ 0 → Clean b
unfolding from_nodes from_conditions from_orders
clean b e =
    let w = no_cause_1_2_3 b e in
    let p4 = passed (cause4 b) 4 _ (λ z. omega arith) w.1 in
    let p5 = passed (cause5 b) 5 _ (λ z. omega arith) p4.1 in
    let p6 = passed (cause6 b) 6 _ (λ z. omega arith) p5.1 in
    let p7 = passed (cause7 b) 7 _ (λ z. omega arith) p6.1 in
    let p8 = passed (cause8 b) 8 _ (λ z. omega arith) p7.1 in
    let p9 = passed (cause9 b) 9 _ (λ z. omega arith) p8.1 in
    let p10 = passed (cause10 b) 10 _ (λ z. omega arith) p9.1 in
    let p11 = passed (cause11 b) 11 _ (λ z. omega arith) p10.1 in
    let p12 = passed (cause12 b) 12 _ (λ z. omega arith) p11.1 in
    let p13 = passed (cause13 b) 13 _ (λ z. omega arith) p12.1 in
    let p14 = passed (cause14 b) 14 _ (λ z. omega arith) p13.1 in
    record {
      fits = w.0;
      starts = p4.0;
      names = p5.0;
      entries = p6.0;
      parents = p7.0;
      children = p8.0;
      conditions = p9.0;
      rising = p10.0;
      signs = p11.0;
      posts = p12.0;
      orders = p13.0;
      rising_orders = p14.0;
    }

-- a flag that is set at the start is one of the plan's
pub start_below : (b : List ℕ) → Clean b → (f : ℕ) → f < 64 → start_flag b f ≡ true → f < flag_count b
unfolding cause4 bad_start
start_below b c f l s =
    leb-false (flag_count b) f (not_passed (leb (flag_count b) f)
    (λ t. true≢false (sym (and_of (leb (flag_count b) f) (start_flag b f) t s)
    ∙ none_at 64 (bad_start b) c.starts f l)))
