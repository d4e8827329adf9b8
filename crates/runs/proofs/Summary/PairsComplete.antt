-- An all_of group that may clobber has a pair: the children are read off the execution by projection.
use Rattle.runs.proofs.Base.{◌≡◌, sym, ◌∙◌, ◌≢◌, inl, inr, Bool, not, some, [], ◌∷◌, ◌++◌, append-nil, ℕ}
use Rattle.runs.specs.Plan.{all_of, inc, Plan, Child, Under, Before, Concurrent, at_group, deeper, pre, post}
use Rattle.runs.specs.WellFormed.{WellFormed}
use Rattle.runs.specs.Execution.{running, Event, start, finish, skip, History, node_of, status_after, Execution}
use Rattle.runs.specs.Execution.{pre_of, asserts, last_asserted}
use Rattle.runs.specs.Summary.{Clobbers, precondition, incondition, Opposed, MayClobber}
use Rattle.runs.specs.Pairs.{TaskWith, ClobberByPairs, in_child, unordered_pair, opposed_pair, passed_on}
use Rattle.runs.proofs.Reflect.{clash}
use Rattle.runs.proofs.Plan.{child_under, Branch, one_branch, before_irrefl, Standing, same, earlier}
use Rattle.runs.proofs.Plan.{later, unordered, standing}
use Rattle.runs.specs.Classes.{All, Unasserted, here}
use Rattle.runs.proofs.Execution.{earlier_append, OfKind, enabled_of_kind, branch_of, part, part_in, part_out}
use Rattle.runs.proofs.Execution.{after_part, part_execution, execution_tail, execution_last, earlier_execution}
use Rattle.runs.proofs.Execution.{part_append, part_all, apart, completed_before, running_task}
use Rattle.runs.proofs.Summary.Concurrent.{Placed, under_one, under_two, overlap, placed}
use Rattle.runs.proofs.Summary.Events.{all_unasserted}
use Rattle.runs.proofs.Summary.Last.{last_at, last_past}
use Rattle.runs.proofs.Summary.Postconditions.{last_some, some_last}
use Rattle.runs.proofs.Summary.Preconditions.{may_pre_is_meet}

module _ (p : Plan) (w : WellFormed p) where
  -- what an event needs, its task needs
  pub need_of : {f : ℕ} {v : Bool} (d : ℕ) (e : Event) → OfKind p e → Under p d (node_of e)
      → pre_of p.conditions e f ≡ some v → TaskWith p pre inc f v d
  need_of d (start t) k u q = record { who = t; is_task = k; beneath = u; has = inl q }
  need_of d (finish t) k u q = clash cc
  need_of d (skip g) k u q = clash cc

  -- what an event asserts, its task holds or leaves
  pub assertion_of : {f : ℕ} {v : Bool} (d : ℕ) (e : Event) → OfKind p e → Under p d (node_of e)
      → asserts p e f ≡ some v
      → TaskWith p inc post f v d
  assertion_of d (start t) k u q = record { who = t; is_task = k; beneath = u; has = inl q }
  assertion_of d (finish t) k u q = record { who = t; is_task = k; beneath = u; has = inr q }
  assertion_of d (skip g) k u q = clash cc

  -- opposite leavings at n are those of two children of n, an all_of group, or of one child
  pub data OpposedParts (f : ℕ) (v : Bool) (n : ℕ) : Type 0 where
    two_children : p.tree.kind n ≡ all_of → ClobberByPairs p f v n → OpposedParts f v n
    one_child : (c : ℕ) → Child p n c → Opposed p f v c → OpposedParts f v n

  pub opposed_parts : {n : ℕ} (f : ℕ) (v : Bool) → Opposed p f v n → OpposedParts f v n
  opposed_parts {n} f v x = at x.concurrent
    where
      leaver : (c t : ℕ) (u : Bool) → Under p c t → p.conditions.sign post t f ≡ some u → TaskWith p post post f u c
      leaver c t u b q = record { who = t; is_task = (w.on_task post t f u q).1; beneath = b; has = inl q }

      at : Concurrent p x.who x.other n → OpposedParts f v n
      at (at_group k c d hc hd un ut uu) = two_children k
          (opposed_pair c d hc hd un (leaver c x.who v ut x.leaves) (leaver d x.other (not v) uu x.opposes))
      at (deeper c hc y) = one_child c hc (record {
        who = x.who;
        other = x.other;
        concurrent = y;
        leaves = x.leaves;
        opposes = x.opposes;
      })

  module _ {n : ℕ} (kn : p.tree.kind n ≡ all_of) (f : ℕ) (v : Bool) where
    -- d before b, an event under d: nothing under b has happened
    nothing_after : {b d : ℕ} (g : History) (e : Event) (r : History) → Child p n b → Child p n d
        → Execution p n (e ∷ r) → Under p d (node_of e)
        → Before p d b → All (Unasserted p f) g → All (Unasserted p f) (part p w b (g ++ (e ∷ r)))
    nothing_after {b} {d} g e r hb hd fr u q a =
        let ne : ¬ Under p b (node_of e) = λ x. before_irrefl p w (rw (one_branch p w hd hb u x) at q) in
        let nil : part p w b (e ∷ r) ≡ [] = part_out p w b e r ne ∙ apart p w fr hb q u in
        rw (part_append p w b g (e ∷ r), nil, append-nil (part p w b g)) (part_all p w b a)

    pre_to_pairs : (ev : Event) (g : History) (e : Event) (r : History) → Execution p n (ev ∷ (g ++ (e ∷ r)))
        → pre_of p.conditions ev f ≡ some v
        → All (Unasserted p f) g → asserts p e f ≡ some (not v) → ClobberByPairs p f v n
    pre_to_pairs ev g e r fr nd a wr = go (standing p w c d)
      where
        h : History
        h = g ++ (e ∷ r)

        fe : Execution p n (e ∷ r)
        fe = earlier_execution p w (earlier_append g (e ∷ r)) (execution_tail p w fr)

        bt : Branch p n (node_of ev)
        bt = branch_of p w (status_after h) kn (execution_last p w fr)

        be : Branch p n (node_of e)
        be = branch_of p w (status_after r) kn (execution_last p w fe)

        c : ℕ
        c = bt.via

        d : ℕ
        d = be.via

        part_d : part p w d h ≡ part p w d g ++ (e ∷ part p w d r)
        part_d = part_append p w d g (e ∷ r) ∙ rw (part_in p w d e r be.beneath)

        last_d : last_asserted p (part p w d h) f ≡ some (not v)
        last_d = rw part_d (last_some p f (last_past (part_all p w d a) (here wr)))

        free_c : Execution p c (ev ∷ part p w c h)
        free_c = rw (part_in p w c ev h bt.beneath) at (part_execution p w (child_under p bt.child) fr)

        not-nil : (k : History) → k ++ (e ∷ part p w d r) ≡ [] → ⊥
        not-nil [] q = clash cc
        not-nil (x ∷ k) q = clash cc

        go : Standing p c d → ClobberByPairs p f v n
        go (same q) = in_child c bt.child (inl (record {
          history = part p w c h;
          event = ev;
          execution = free_c;
          clobbers = precondition nd (rw q last_d);
        }))
        go (earlier q) = absurd (not-nil (part p w d g) (sym part_d ∙ apart p w fr be.child q bt.beneath))
        go (later q) = passed_on c d bt.child be.child q
            (record {
              history = part p w d h;
              completed = completed_before p w ev h bt.child fr bt.beneath q;
              holds = last_d;
            })
            ((may_pre_is_meet p w f v bt.child.node).1
            (record {
              event = ev;
              before = part p w c h;
              execution = free_c;
              hit = nd;
              quiet = nothing_after g e r bt.child be.child fe be.beneath q a;
            }))
            (λ b hb q₁ q₂. record {
              history = part p w b h;
              completed = completed_before p w ev h bt.child fr bt.beneath q₂;
              holds = all_unasserted p f (nothing_after g e r hb be.child fe be.beneath q₁ a);
            })
        go (unordered u) = unordered_pair c d bt.child be.child u
            (need_of c ev (enabled_of_kind p (execution_last p w fr)) bt.beneath nd)
            (assertion_of d e (enabled_of_kind p (execution_last p w fe)) be.beneath wr)

    inc_to_pairs : (e : Event) (h : History) (t : ℕ) → Execution p n (e ∷ h) → node_of e ≢ t
        → p.conditions.sign inc t f ≡ some v → status_after h t ≡ running
        → asserts p e f ≡ some (not v) → ClobberByPairs p f v n
    inc_to_pairs e h t fr other ho ru br = at (placed p w kn (overlap p w f (not v) e t br fr other ru))
      where
        at : Placed p n t (node_of e) → ClobberByPairs p f v n
        at (under_one c hc ut ue) = in_child c hc (inl (record {
          history = part p w c h;
          event = e;
          clobbers = incondition t other ho (after_part p w c h t ut ∙ ru) br;
          execution = rw (part_in p w c e h ue) at (part_execution p w (child_under p hc) fr);
        }))
        at (under_two c d hc hd un ut ue) = unordered_pair c d hc hd un (record {
          who = t;
          is_task = running_task p w (execution_tail p w fr) t ru;
          beneath = ut;
          has = inr ho;
        }) (assertion_of d e (enabled_of_kind p (execution_last p w fr)) ue br)

    -- an all_of group that may clobber has a pair
    pub clobber_to_pairs : MayClobber p f v n → ClobberByPairs p f v n
    clobber_to_pairs (inr x) = at (opposed_parts f v x)
      where
        at : OpposedParts f v n → ClobberByPairs p f v n
        at (two_children k y) = y
        at (one_child c hc y) = in_child c hc (inr y)
    clobber_to_pairs (inl x) = go x.history x.event x.execution x.clobbers
      where
        go : (h : History) (e : Event) → Execution p n (e ∷ h) → Clobbers p f v h e → ClobberByPairs p f v n
        go h e fr (precondition nd sp) = let a = last_at (some_last p f (not v) h sp) in
            pre_to_pairs e a.later a.event a.before (rw a.splits at fr) nd a.quiet a.hit
        go h e fr (incondition t ne ho ru br) = inc_to_pairs e h t fr ne ho ru br
