-- Demand 2 on the level of plans: each of the eight tests is true exactly if the mark's proposition holds.
use Rattle.runs.proofs.Base.{Bool, ℕ}
use Rattle.runs.specs.Plan.{Plan, Node}
use Rattle.runs.specs.WellFormed.{WellFormed}
use Rattle.runs.specs.Summary.{Mark, may_pre, must_pre, may_post, must_post, may_inc, must_inc, may_clobber}
use Rattle.runs.specs.Summary.{must_clobber, Marked}
use Rattle.runs.specs.Model.Marks.{marked_b}
use Rattle.runs.proofs.Reflect.{Reflects}
use Rattle.runs.proofs.Summary.ReflectClobber.{r_may_clobber, r_must_clobber}
use Rattle.runs.proofs.Summary.ReflectConditions.{r_may_pre, r_must_pre, r_may_post, r_must_post, r_may_inc}
use Rattle.runs.proofs.Summary.ReflectConditions.{r_must_inc}

pub marks_exact : (p : Plan) → WellFormed p → (n f : ℕ) → Node p n → (v : Bool) (m : Mark)
    → Reflects (marked_b p n f v m) (Marked p n f v m)
unfolding marked_b
marks_exact p w n f l v may_pre = r_may_pre p w n f l v
marks_exact p w n f l v must_pre = r_must_pre p w n f l v
marks_exact p w n f l v may_post = r_may_post p w n f l v
marks_exact p w n f l v must_post = r_must_post p w n f l v
marks_exact p w n f l v may_inc = r_may_inc p w n f l v
marks_exact p w n f l v must_inc = r_must_inc p w n f l v
marks_exact p w n f l v may_clobber = r_may_clobber p w f v n l
marks_exact p w n f l v must_clobber = r_must_clobber p w f v n l
