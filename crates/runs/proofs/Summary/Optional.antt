-- The marks of an optional group: may need, leave and hold where some branch may, for the skip alone shows none of
-- them; may clash where some branch may; must and doom never.
use Rattle.runs.proofs.Base.{◌≡◌, ◌↔◌, Bool, ℕ}
use Rattle.runs.specs.Plan.{optional, Plan, Child}
use Rattle.runs.specs.WellFormed.{WellFormed}
use Rattle.runs.specs.Summary.{ExternalPre, ExternalPost, Incondition, Mark, may_pre, must_pre, may_post}
use Rattle.runs.specs.Summary.{must_post, may_inc, must_inc, may_clobber, must_clobber, Marked}
use Rattle.runs.proofs.Summary.MayMust.{may_branch, must_never}
use Rattle.runs.proofs.Summary.ByChildren.{pre_skip, post_skip, inc_skip}
use Rattle.runs.proofs.Summary.Clobber.{clobber_optional}
use Rattle.runs.proofs.Summary.ReflectClobber.{must_clobber_optional}

module _ (p : Plan) (n f : ℕ) (v : Bool) where
  abbrev Some : Mark → Type 0
  Some m = (c : ℕ) × Child p n c × Marked p c f v m

  abbrev pub OptionalMark : Mark → Type 0
  OptionalMark may_pre = Some may_pre
  OptionalMark must_pre = ⊥
  OptionalMark may_post = Some may_post
  OptionalMark must_post = ⊥
  OptionalMark may_inc = Some may_inc
  OptionalMark must_inc = ⊥
  OptionalMark may_clobber = Some may_clobber
  OptionalMark must_clobber = ⊥

  never : {A : Type 0} → ¬ A → A ↔ ⊥
  never k = (k, λ x. absurd x)

  pub optional_marks : WellFormed p → p.tree.kind n ≡ optional → (m : Mark) → Marked p n f v m ↔ OptionalMark m
  optional_marks w k may_pre = may_branch p w (ExternalPre p f v) k (pre_skip p w f v n)
  optional_marks w k must_pre = never (must_never p w (ExternalPre p f v) k (pre_skip p w f v n))
  optional_marks w k may_post = may_branch p w (ExternalPost p f v) k (post_skip p w f v n)
  optional_marks w k must_post = never (must_never p w (ExternalPost p f v) k (post_skip p w f v n))
  optional_marks w k may_inc = may_branch p w (Incondition p f v) k (inc_skip p w f v n)
  optional_marks w k must_inc = never (must_never p w (Incondition p f v) k (inc_skip p w f v n))
  optional_marks w k may_clobber = clobber_optional p w f v k
  optional_marks w k must_clobber = never (must_clobber_optional p w f v k)
