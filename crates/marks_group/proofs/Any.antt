-- The facts of a group by those of its children, where the rule is the same for all properties: an any_of group has a
-- fact where some branch has it, in the last columns where every branch has it. An optional group may always avoid a
-- flag and be quiet, never has a fact of the last columns, and has the others where some branch has them. Assumes
-- nothing.
use mathlib.Core.Path.{◌≡◌}
use mathlib.Core.Logic.Iff
use mathlib.Core.Logic.{◌≢◌, ◌⊎◌, inl, inr, ◌↔◌}
use mathlib.Core.Bool.{Bool}
use mathlib.Core.Option.{none}
use Prim.Native.Nat.{ℕ, ◌<◌, ◌≤◌}
use native.Mathlib.Omega.{arith}
use Rattle.runs.specs.Plan.{task, any_of, optional, Place, pre, inc, post, Plan, Child}
use Rattle.runs.specs.WellFormed.{WellFormed}
use Rattle.runs.specs.Execution.{last_asserted, skip}
use Rattle.runs.specs.Summary.{ExternalPre, ExternalPost, Incondition}
use Rattle.runs.specs.Pairs.{TaskWith}
use Rattle.runs.proofs.Reflect.{clash}
use Rattle.runs.proofs.Plan.Trees.{Branch, branch, child_under, under_trans}
use Rattle.runs.specs.Classes.{All, all_nil, all_cons, Neutral, Covers}
use Rattle.runs.proofs.Summary.Meet.{meet_any, meet_optional}
use Rattle.runs.proofs.Summary.MayMust.{may_any, must_any, may_optional, may_branch, must_never}
use Rattle.runs.proofs.Summary.ByChildren.{avoids_skip, neutral_skip, covers_skip, pre_skip, post_skip, inc_skip}
use Rattle.runs.proofs.Summary.Clobber.{clobber_any, clobber_optional}
use Rattle.runs.proofs.Summary.ReflectClobber.{must_clobber_any, must_clobber_optional}
use Rattle.marks_row.specs.Columns.{Column, avoid, quiet, covered, may_pre, may_post, may_inc, requires, asserts}
use Rattle.marks_row.specs.Columns.{posts, may_clobber, must_inc, must_clobber}
use Rattle.marks_row.specs.Columns.{index_of, first_word, Fact}
use Rattle.runs.proofs.Plan.Numbers.{sign_small}

module _ (p : Plan) (w : WellFormed p) where
  -- some task under a group has it: some task under a child
  pub with_child : {n : ℕ} → p.tree.kind n ≢ task → (i j : Place) (f : ℕ) (v : Bool)
      → TaskWith p i j f v n ↔ ((c : ℕ) × Child p n c × TaskWith p i j f v c)
  with_child {n} k i j f v = (
    λ x. at x (branch p x.beneath),
    λ y. let x = y.2 in
        record {
          who = x.who;
          is_task = x.is_task;
          has = x.has;
          beneath = under_trans p (child_under p y.1) x.beneath;
        },
  )
    where
      at : (x : TaskWith p i j f v n) → (n ≡ x.who) ⊎ Branch p n x.who
          → (c : ℕ) × Child p n c × TaskWith p i j f v c
      at x (inl e) = absurd (k (rw e x.is_task))
      at x (inr b) = (
        b.via,
        b.child,
        record { who = x.who; is_task = x.is_task; has = x.has; beneath = b.beneath },
      )

  group_any : {n : ℕ} → p.tree.kind n ≡ any_of → p.tree.kind n ≢ task
  group_any k e = clash cc

  group_optional : {n : ℕ} → p.tree.kind n ≡ optional → p.tree.kind n ≢ task
  group_optional k e = clash cc

  module _ {n : ℕ} (k : p.tree.kind n ≡ any_of) (f : ℕ) where
    pub some_branch : (c : Column) → index_of c < first_word must_inc
        → Fact p n f c ↔ ((b : ℕ) × Child p n b × Fact p b f c)
    some_branch avoid l = may_any p w (λ h. last_asserted p h f ≡ none) k
    some_branch (quiet v) l = may_any p w (All (Neutral p f v)) k
    some_branch (covered v) l = meet_any p w (Neutral p f v) (Covers p f v) k
    some_branch (may_pre v) l = may_any p w (ExternalPre p f v) k
    some_branch (may_post v) l = may_any p w (ExternalPost p f v) k
    some_branch (may_inc v) l = may_any p w (Incondition p f v) k
    some_branch (requires v) l = with_child (group_any k) pre inc f v
    some_branch (asserts v) l = with_child (group_any k) inc post f v
    some_branch (posts v) l = with_child (group_any k) post post f v
    some_branch (may_clobber v) l = clobber_any p w f v k
    some_branch (must_inc v) l = absurd (omega arith)
    some_branch (must_clobber v) l = absurd (omega arith)

    pub every_branch : (c : Column) → first_word must_inc ≤ index_of c
        → Fact p n f c ↔ ((b : ℕ) → Child p n b → Fact p b f c)
    every_branch avoid l = absurd (omega arith)
    every_branch (quiet v) l = absurd (omega (arith, sign_small v))
    every_branch (covered v) l = absurd (omega (arith, sign_small v))
    every_branch (may_pre v) l = absurd (omega (arith, sign_small v))
    every_branch (may_post v) l = absurd (omega (arith, sign_small v))
    every_branch (may_inc v) l = absurd (omega (arith, sign_small v))
    every_branch (requires v) l = absurd (omega (arith, sign_small v))
    every_branch (asserts v) l = absurd (omega (arith, sign_small v))
    every_branch (posts v) l = absurd (omega (arith, sign_small v))
    every_branch (may_clobber v) l = absurd (omega (arith, sign_small v))
    every_branch (must_inc v) l = must_any p w (Incondition p f v) k
    every_branch (must_clobber v) l = must_clobber_any p w f v k

  module _ {n : ℕ} (k : p.tree.kind n ≡ optional) (f : ℕ) where
    pub empty_avoids : Fact p n f avoid
    empty_avoids = (may_optional p w (λ h. last_asserted p h f ≡ none) k).1 (inr (avoids_skip p w f n))

    module _ (v : Bool) where
      pub empty_quiet : Fact p n f (quiet v)
      empty_quiet = (may_optional p w (All (Neutral p f v)) k).1 (inr (all_cons (neutral_skip p w f v n) all_nil))

      covered_branch : Fact p n f (covered v) ↔ ((b : ℕ) × Child p n b × Fact p b f (covered v))
      covered_branch = Iff.trans (meet_optional p w (Neutral p f v) (Covers p f v) k) (to, λ y. inl y)
        where
          to : ((b : ℕ) × Child p n b × Fact p b f (covered v)) ⊎ Covers p f v (skip n)
              → (b : ℕ) × Child p n b × Fact p b f (covered v)
          to (inl y) = y
          to (inr z) = absurd (covers_skip p w f v n z)

    pub optional_branch : (c : Column) → first_word covered ≤ index_of c → index_of c < first_word must_inc
        → Fact p n f c ↔ ((b : ℕ) × Child p n b × Fact p b f c)
    optional_branch avoid m l = absurd (omega arith)
    optional_branch (quiet v) m l = absurd (omega (arith, sign_small v))
    optional_branch (covered v) m l = covered_branch v
    optional_branch (may_pre v) m l = may_branch p w (ExternalPre p f v) k (pre_skip p w f v n)
    optional_branch (may_post v) m l = may_branch p w (ExternalPost p f v) k (post_skip p w f v n)
    optional_branch (may_inc v) m l = may_branch p w (Incondition p f v) k (inc_skip p w f v n)
    optional_branch (requires v) m l = with_child (group_optional k) pre inc f v
    optional_branch (asserts v) m l = with_child (group_optional k) inc post f v
    optional_branch (posts v) m l = with_child (group_optional k) post post f v
    optional_branch (may_clobber v) m l = clobber_optional p w f v k
    optional_branch (must_inc v) m l = absurd (omega arith)
    optional_branch (must_clobber v) m l = absurd (omega arith)

    pub optional_musts : (v : Bool) → (¬ Fact p n f (must_inc v)) × (¬ Fact p n f (must_clobber v))
    optional_musts v = (
      must_never p w (Incondition p f v) k (inc_skip p w f v n),
      must_clobber_optional p w f v k,
    )
