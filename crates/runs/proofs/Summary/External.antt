-- An external precondition of a node is a pre- or incondition of some task under it, an external postcondition an in-
-- or postcondition.
use Rattle.runs.proofs.Base.{Bool, ◌∷◌, ℕ}
use Rattle.runs.specs.Plan.{pre, inc, post, Plan, Under}
use Rattle.runs.specs.WellFormed.{WellFormed}
use Rattle.runs.specs.Execution.{Event, History, node_of, Execution}
use Rattle.runs.specs.Summary.{May, ExternalPre, ExternalPost}
use Rattle.runs.specs.Pairs.{TaskWith}
use Rattle.runs.proofs.Execution.{OfKind, enabled_under, enabled_of_kind, earlier_append, execution_last}
use Rattle.runs.proofs.Execution.{earlier_execution}
use Rattle.runs.proofs.Summary.Last.{last_at}
use Rattle.runs.proofs.Summary.Postconditions.{some_last}
use Rattle.runs.proofs.Summary.PairsComplete.{need_of, assertion_of}

module _ (p : Plan) (w : WellFormed p) where
  event_of_lem : {n : ℕ} {e : Event} {r : History} → Execution p n (e ∷ r) → OfKind p e × Under p n (node_of e)
  event_of_lem g = let k = execution_last p w g in (enabled_of_kind p k, enabled_under p k)

  module _ {n f : ℕ} {v : Bool} where
    pub external_pre_with : May p n (ExternalPre p f v) → TaskWith p pre inc f v n
    external_pre_with m =
        let x = m.holds in
        let o = event_of_lem (earlier_execution p w x.at m.completed.execution) in
        need_of p w n x.event o.0 o.1 x.needs

    pub external_post_with : May p n (ExternalPost p f v) → TaskWith p inc post f v n
    external_post_with m =
        let a = last_at (some_last p f v m.history m.holds) in
        let g : Execution p n (a.event ∷ a.before) = earlier_execution p w
        (earlier_append a.later (a.event ∷ a.before)) (rw a.splits at m.completed.execution) in
        let o = event_of_lem g in
        assertion_of p w n a.event o.0 o.1 a.hit
