-- What the call answers and leaves, in each of its three cases. Assumes nothing.
use mathlib.Core.Path.{◌≡◌, refl, sym, ◌∙◌}
use mathlib.Core.Logic.{inl, inr}
use mathlib.Core.Bool.{true, false, ◌||◌, true≢false}
use mathlib.Core.List.{List}
use Prim.Native.Nat.{ℕ, ◌<◌, ◌≤◌}
use native.Mathlib.Omega.{arith}
use lib.Dec.{ltb}
use lib.ListN.{length, take}
use borrow.Author.Tests.{lt-ltb, le-ltb, ltb-false}
use Rattle.base.proofs.Booleans.{or_none}
use Rattle.base.proofs.First.{refused_not, same_refusal, same_given}
use Rattle.base.proofs.Overlay.{length_overlay, past_overlay}
use Rattle.plan_layout.specs.Layout.{plan_length}
use Rattle.plan_layout.specs.Fields.{byte_at, laid_bytes}
use Rattle.plan_layout.proofs.Sections.{laid_in, laid_bytes_lem}
use Rattle.plan_draws.specs.declared.Recipe.{Recipe}
use Rattle.plan_draws.specs.Drawn.{Allowed}
use Rattle.plan_generate.specs.Sentences.{IsGenerated}
use Rattle.plan_generate.specs.Model.{sizes_in, generated, refused30, generate_refusal, generate_answer}
use Rattle.plan_generate.specs.Model.{with_plan, generate_left}
use Rattle.plan_generate.specs.Calls.{PlanLonger, Generates}
use Rattle.plan_generate.proofs.Sentences.{is_generated, generated_long}

-- ---- 30
module _ (r : Recipe) where
  pub allowed : refused30 r ≡ false → Allowed r
  unfolding refused30
  allowed h =
      let (x, y) = or_none (ltb r.groups 1 || ltb 60 r.groups)
      (ltb r.tasks r.groups || ltb 60 r.tasks) h in
      let (a, b) = or_none (ltb r.groups 1) (ltb 60 r.groups) x in
      let (c, d) = or_none (ltb r.tasks r.groups) (ltb 60 r.tasks) y in
      record {
        some_group = ltb-false r.groups 1 a;
        few_groups = ltb-false 60 r.groups b;
        enough_tasks = ltb-false r.tasks r.groups c;
        few_tasks = ltb-false 60 r.tasks d;
      }

  not_refused : Allowed r → refused30 r ≡ false
  unfolding refused30
  not_refused ok = rw (
    le-ltb r.groups 1 ok.some_group,
    le-ltb 60 r.groups ok.few_groups,
    le-ltb r.tasks r.groups ok.enough_tasks,
    le-ltb 60 r.tasks ok.few_tasks,
  )

  -- ---- the plan at the beginning of lent memory, and by itself
  pub plan_in : Allowed r → (out : List ℕ) → plan_length (sizes_in r) ≤ length out
      → IsGenerated r (take (plan_length (sizes_in r)) (with_plan r out))
  unfolding generated
  plan_in ok out l = is_generated r ok _ (laid_in (generated r) out l)

  plan_is : Allowed r → IsGenerated r (laid_bytes (generated r))
  plan_is ok = is_generated r ok _ (laid_bytes_lem (generated r))

module _ (r : Recipe) (out : List ℕ) where
  pub generates_30 : refused30 r ≡ true → Generates r out (inl 30) out
  unfolding generate_refusal generate_answer generate_left
  generates_30 h = record {
    returns = rw h;
    leaves = rw h;
    refused_30 = (λ e. no, λ e. refl);
    refused_15 = (λ e. absurd (other (same_refusal e)), λ s. absurd (no s.allowed));
    refused = λ m e. inl (sym (same_refusal e));
    unchanged = λ m e. refl;
    fits = λ m e. absurd (refused_not e);
    made = λ m e. absurd (refused_not e);
    kept = λ m e. absurd (refused_not e);
    as_long = refl;
  }
    where
      no : ¬ Allowed r
      no ok = true≢false (sym h ∙ not_refused r ok)

      other : ◌≡◌ {A = ℕ} 30 15 → ⊥
      other e = omega arith

  module _ (h : refused30 r ≡ false) where
    ok : Allowed r
    ok = allowed r h

    pub generates_15 : length out < plan_length (sizes_in r) → Generates r out (inl 15) out
    unfolding generate_refusal generate_answer generate_left
    generates_15 l = record {
      returns = rw (h, lt-ltb (length out) (plan_length (sizes_in r)) l);
      leaves = rw (h, lt-ltb (length out) (plan_length (sizes_in r)) l);
      refused_30 = (λ e. absurd (other (same_refusal e)), λ no. absurd (no ok));
      refused_15 = (λ e. short, λ s. refl);
      refused = λ m e. inr (sym (same_refusal e));
      unchanged = λ m e. refl;
      fits = λ m e. absurd (refused_not e);
      made = λ m e. absurd (refused_not e);
      kept = λ m e. absurd (refused_not e);
      as_long = refl;
    }
      where
        other : ◌≡◌ {A = ℕ} 15 30 → ⊥
        other e = omega arith

        short : PlanLonger r out
        short = record {
          allowed = ok;
          plan = laid_bytes (generated r);
          is_generated = plan_is r ok;
          longer = omega (arith, generated_long r _ (plan_is r ok));
        }

    pub generates_plan : {m : ℕ} {out' : List ℕ} → m ≡ plan_length (sizes_in r) → plan_length (sizes_in r) ≤ length out
        → out' ≡ with_plan r out → Generates r out (inr m) out'
    unfolding generate_refusal generate_answer generate_left
    generates_plan {m} {out'} e l q = record {
      returns = rw (h, le-ltb (length out) (plan_length (sizes_in r)) l, e);
      leaves = rw (h, le-ltb (length out) (plan_length (sizes_in r)) l) q;
      refused_30 = (λ z. absurd (refused_not (sym z)), λ no. absurd (no ok));
      refused_15 = (λ z. absurd (refused_not (sym z)), λ s. absurd (long s));
      refused = λ k z. absurd (refused_not (sym z));
      unchanged = λ k z. absurd (refused_not (sym z));
      fits = λ k z. omega (arith, same_given z);
      made = λ k z. rw (q, ← same_given z, e) (plan_in r ok out l);
      kept = λ k z i u. rw q
          (past_overlay (byte_at (generated r)) out (plan_length (sizes_in r)) i (omega (arith, same_given z)));
      as_long = rw q (length_overlay (byte_at (generated r)) out (plan_length (sizes_in r)));
    }
      where
        long : PlanLonger r out → ⊥
        long s = omega (arith, s.longer, generated_long r s.plan s.is_generated)
