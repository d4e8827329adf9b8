-- Refusal 18 of a skip: the group is taken.
use Rattle.runs.proofs.Base.{◌≡◌, ◌≢◌, ◌⊎◌, inl, inr, ◌↔◌, ℕ}
use Rattle.runs.specs.Plan.{optional, Plan, Child, itself}
use Rattle.runs.specs.Execution.{waiting, State, skip, Begun}
use Rattle.runs.specs.Calls.{WrongStatus}
use Rattle.runs.proofs.Plan.{under_trans, child_under, Branch, branch}

-- it is skipped already or a branch of it is taken, exactly if it is taken as a branch of a group above would be
pub skip_begun : (p : Plan) {s : State} {g : ℕ} → p.tree.kind g ≡ optional → WrongStatus p s (skip g) ↔ Begun p s g
skip_begun p {s} {g} k = (to, λ x. from x (branch p x.beneath))
  where
    to : (s g ≢ waiting) ⊎ ((c : ℕ) × Child p g c × Begun p s c) → Begun p s g
    to (inl n) = record { who = g; moves = rw k tt; beneath = itself; begun = n }
    to (inr (c, hc, x)) = record {
      who = x.who;
      moves = x.moves;
      beneath = under_trans p (child_under p hc) x.beneath;
      begun = x.begun;
    }

    from : (x : Begun p s g) → (g ≡ x.who) ⊎ Branch p g x.who
        → (s g ≢ waiting) ⊎ ((c : ℕ) × Child p g c × Begun p s c)
    from x (inl e) = inl (rw e x.begun)
    from x (inr b) = inr (
      b.via,
      b.child,
      record { who = x.who; moves = x.moves; beneath = b.beneath; begun = x.begun },
    )
