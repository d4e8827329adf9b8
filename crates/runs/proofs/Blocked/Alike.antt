-- Locality of the marks: where two plans differ only outside of what is under a node, the node has the same marks in
-- both.
use Rattle.runs.proofs.Base.{◌↔◌, Bool, ℕ}
use Rattle.runs.specs.Plan.{Tree, Plan}
use Rattle.runs.specs.WellFormed.{WellFormed}
use Rattle.runs.specs.Execution.{History}
use Rattle.runs.specs.Summary.{Incondition, Mark, may_pre, must_pre, may_post, must_post, may_inc, must_inc}
use Rattle.runs.specs.Summary.{may_clobber, must_clobber, Marked}
use Rattle.runs.specs.Model.Blocked.{over}
use Rattle.runs.proofs.Blocked.Thinner.{Thinner, completed_in, may_in, may_pre_in, may_clobber_listed}
use Rattle.runs.proofs.Blocked.Thinner.{must_pre_out, must_clobber_out}

module _ (p : Plan) (w : WellFormed p) (t : Tree) (o : ℕ → ℕ → Bool) (wq : WellFormed (over p t o)) where
  inc_over : {f : ℕ} {v : Bool} {r : History} → Incondition p f v r → Incondition (over p t o) f v r
  inc_over x = record { who = x.who; holds = x.holds; until = x.until; at = x.at; runs = x.runs }

  -- each is thinner than the other from n down
  module _ {n : ℕ} (th : Thinner p t o n) (back : Thinner (over p t o) p.tree p.order n) where
    abbrev q : Plan
    q = over p t o

    pub marks_over : (f : ℕ) (v : Bool) (m : Mark) → Marked p n f v m → Marked q n f v m
    marks_over f v may_pre x = may_pre_in q wq p.tree p.order w back x
    marks_over f v must_pre x = must_pre_out p w t o wq th x
    marks_over f v may_post x = may_in q wq p.tree p.order w back x
    marks_over f v must_post x = λ r y. x r (completed_in p w t o wq th y)
    marks_over f v may_inc x = let y = may_in q wq p.tree p.order w back x in
        record { history = y.history; completed = y.completed; holds = inc_over y.holds }
    marks_over f v must_inc x = λ r y. inc_over (x r (completed_in p w t o wq th y))
    marks_over f v may_clobber x = may_clobber_listed q wq p.tree p.order w back x
    marks_over f v must_clobber x = must_clobber_out p w t o wq th x

pub marks_alike : (p : Plan) (w : WellFormed p) (t : Tree) (o : ℕ → ℕ → Bool) (wq : WellFormed (over p t o)) {n : ℕ}
    → Thinner p t o n
    → Thinner (over p t o) p.tree p.order n → (f : ℕ) (v : Bool) (m : Mark)
    → Marked p n f v m ↔ Marked (over p t o) n f v m
marks_alike p w t o wq th back f v m = (
  marks_over p w t o wq th back f v m,
  marks_over (over p t o) wq p.tree p.order w back th f v m,
)
