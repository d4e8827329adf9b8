-- Last (`MayLast`): its rules by children. At a choice it is `may_any`, `may_optional` with `last_skip`.
use Rattle.runs.proofs.Base.{◌≡◌, refl, ap, ◌∙◌, sym, ◌⊎◌, inl, inr, ◌↔◌, Iff·trans, ◌≢◌, [], ◌∷◌, ◌++◌}
use Rattle.runs.proofs.Base.{append-nil, ℕ, arith, ℕ_discrete, T}
use Rattle.runs.specs.Plan.{task, all_of, Plan, Child, Under, Before, direct}
use Rattle.runs.specs.WellFormed.{WellFormed}
use Rattle.runs.specs.Execution.{Event, start, finish, skip, History, node_of, status_after, all_done, Complete}
use Rattle.runs.specs.Execution.{Execution, Completed}
use Rattle.runs.proofs.Plan.{Branch, one_branch, before_rank, before_trans, before_irrefl, dec_before}
use Rattle.runs.specs.Classes.{All, all_nil, all_cons, Anything, MayQuiet, LastIs, here, past, MayLast}
use Rattle.runs.proofs.Execution.{earlier_append, branch_of, part, part_nil, part_in, part_out}
use Rattle.runs.proofs.Execution.{execution_last, earlier_execution, execution_under, part_append, part_other}
use Rattle.runs.proofs.Execution.{part_all, part_completed}
use Rattle.runs.proofs.Execution.{complete_stays, extend_completed, Staged, stage, apart}
use Rattle.runs.proofs.Summary.MayMust.{whole, skip_only, may_task}
use Rattle.runs.proofs.Summary.Quiet.{quiet_stage, quiet_anything}

pub record LastAt (Q H : Event → Type 0) (h : History) : Type 0 where
  pub later : History
  pub event : Event
  pub before : History
  pub splits : h ≡ later ++ (event ∷ before)
  pub hit : H event
  pub quiet : All Q later

module _ {Q H : Event → Type 0} where
  pub last_at : {h : History} → LastIs Q H h → LastAt Q H h
  last_at (here {e = e} {r = r} x) =
      record { later = []; event = e; before = r; splits = refl; hit = x; quiet = all_nil }
  last_at (past {e = e} q l) = let a = last_at l in
      record {
        later = e ∷ a.later;
        event = a.event;
        before = a.before;
        splits = ap (λ z. e ∷ z) a.splits;
        hit = a.hit;
        quiet = all_cons q a.quiet;
      }

  pub last_past : {g h : History} → All Q g → LastIs Q H h → LastIs Q H (g ++ h)
  last_past all_nil l = l
  last_past (all_cons q a) l = past q (last_past a l)

  pub last_over : {g : History} (h : History) → LastIs Q H g → LastIs Q H (g ++ h)
  last_over h (here x) = here x
  last_over h (past q l) = past q (last_over h l)

module _ (p : Plan) (w : WellFormed p) (Q H : Event → Type 0) where
  -- task: the finish is in H, or it is in Q and the start is in H
  pub last_task : {n : ℕ} → p.tree.kind n ≡ task → MayLast p Q H n ↔ (H (finish n) ⊎ (Q (finish n) × H (start n)))
  last_task {n} k = Iff·trans (may_task p w (LastIs Q H) k) (to, from)
    where
      to : LastIs Q H (whole n) → H (finish n) ⊎ (Q (finish n) × H (start n))
      to (here x) = inl x
      to (past q (here x)) = inr (q, x)
      to (past q (past _ x)) = elim x [ ]

      from : H (finish n) ⊎ (Q (finish n) × H (start n)) → LastIs Q H (whole n)
      from (inl x) = here x
      from (inr (q, x)) = past q (here x)

  -- optional, the skip alone: it is in H
  pub last_skip : (n : ℕ) → LastIs Q H (skip_only n) ↔ H (skip n)
  last_skip n = (to, here)
    where
      to : LastIs Q H (skip_only n) → H (skip n)
      to (here x) = x
      to (past _ x) = elim x [ ]

  abbrev pub LastAll : ℕ → Type 0
  LastAll n = (c : ℕ) × Child p n c × MayLast p Q H c × ((b : ℕ) → Child p n b → Before p c b → MayQuiet p Q b)

  last_all_to : {n : ℕ} (g : History) (e : Event) (r : History) → p.tree.kind n ≡ all_of
      → Completed p n (g ++ (e ∷ r)) → H e → All Q g → LastAll n
  last_all_to {n} g e r k wh x q = (
    c,
    hc,
    record {
      history = part p w c (g ++ (e ∷ r));
      completed = part_completed p w k wh hc;
      holds = rw (part_append p w c g (e ∷ r), part_in p w c e r u) (last_past (part_all p w c q) (here x));
    },
    quiet_after,
  )
    where
      fr : Execution p n (e ∷ r)
      fr = earlier_execution p w (earlier_append g (e ∷ r)) wh.execution

      b : Branch p n (node_of e)
      b = branch_of p w (status_after r) k (execution_last p w fr)

      c : ℕ
      c = b.via

      hc : Child p n c
      hc = b.child

      u : Under p c (node_of e)
      u = b.beneath

      quiet_after : (a : ℕ) → Child p n a → Before p c a → MayQuiet p Q a
      quiet_after a ha q' =
          let ne : ¬ Under p a (node_of e) =
          λ v. omega (arith, before_rank p w q', ap w.rank (one_branch p w hc ha u v)) in
          let nil : part p w a (e ∷ r) ≡ [] = part_out p w a e r ne ∙ apart p w fr ha q' u in
          record {
            history = part p w a (g ++ (e ∷ r));
            completed = part_completed p w k wh ha;
            holds = rw (part_append p w a g (e ∷ r), nil, append-nil (part p w a g)) (part_all p w a q);
          }

  -- some children of n run to their end, the others not begun, and in the whole an event in H has only Q after it
  pub record Ending (n : ℕ) (D : ℕ → Type 0) : Type 0 where
    pub history : History
    pub execution : Execution p n history
    pub got : (a : ℕ) → Child p n a → D a → Complete p (status_after history) a
    pub kept : (a : ℕ) → Child p n a → ¬ D a → part p w a history ≡ []
    pub is : LastIs Q H history

  -- A closed set of children, d one of them: those that need not come after d run first, then d, ending in H, then
  -- those after d, quietly.
  module _ {n : ℕ} (k : p.tree.kind n ≡ all_of) (D : ℕ → Type 0) (dec_d : (a : ℕ) → Dec (D a))
      (closed : (a b : ℕ) → D b → T (p.order a b) → D a)
      (d : ℕ) (hd : Child p n d) (dd : D d) (m : MayLast p Q H d)
      (after : (b : ℕ) → Child p n b → D b → Before p d b → MayQuiet p Q b) where
    abbrev Sooner : ℕ → Type 0
    Sooner a = D a × (a ≢ d) × (¬ Before p d a)

    abbrev Later : ℕ → Type 0
    Later a = D a × Before p d a

    data Position (a : ℕ) : Type 0 where
      sooner : Sooner a → Position a
      self : a ≡ d → Position a
      later : Later a → Position a
      out : ¬ D a → Position a

    position : (a : ℕ) → Position a
    position a = go (dec_d a) (ℕ_discrete a d) (dec_before p w d a)
      where
        go : Dec (D a) → Dec (a ≡ d) → Dec (Before p d a) → Position a
        go (no x) y z = out x
        go (yes x) (yes e) z = self e
        go (yes x) (no ne) (yes q) = later (x, q)
        go (yes x) (no ne) (no nb) = sooner (x, ne, nb)

    not_self : {a : ℕ} → a ≡ d → ¬ Before p d a
    not_self e q = before_irrefl p w (rw e at q)

    dec_sooner : (a : ℕ) → Dec (Sooner a)
    dec_sooner a = go (position a)
      where
        go : Position a → Dec (Sooner a)
        go (sooner x) = yes x
        go (self e) = no (λ x. x.1 e)
        go (later y) = no (λ x. x.2 y.1)
        go (out z) = no (λ x. z x.0)

    dec_later : (a : ℕ) → Dec (Later a)
    dec_later a = go (position a)
      where
        go : Position a → Dec (Later a)
        go (sooner x) = no (λ y. x.2 y.1)
        go (self e) = no (λ y. not_self e y.1)
        go (later y) = yes y
        go (out z) = no (λ y. z y.0)

    first : Staged p w Anything n [] Sooner
    first = quiet_stage p w Anything k Sooner dec_sooner
        (λ a b ha hb x o. (
          closed a b x.0 o,
          (λ e. x.2 (direct (rw e at o))),
          λ q. x.2 (before_trans p q (direct o)),
        )) (λ a ha x. quiet_anything p w a ha.node)

    abbrev h₁ : History
    h₁ = first.more ++ []

    empty₁ : (a : ℕ) → Child p n a → ¬ Sooner a → part p w a h₁ ≡ []
    empty₁ a ha x = first.kept a ha x ∙ part_nil p w a

    second : Execution p n (m.history ++ h₁) × Complete p (status_after (m.history ++ h₁)) d
    second = extend_completed p w m.history h₁ k hd
        (λ a ha o. first.got a ha (
          closed a d dd o,
          (λ e. before_irrefl p w (direct (rw e at o))),
          λ q. before_irrefl p w (before_trans p q (direct o)),
        ))
        first.execution (rw (empty₁ d hd (λ x. x.1 refl), append-nil m.history) m.completed)

    abbrev h₂ : History
    h₂ = m.history ++ h₁

    empty₂ : (a : ℕ) → Child p n a → a ≢ d → ¬ Sooner a → part p w a h₂ ≡ []
    empty₂ a ha ne x = part_append p w a m.history h₁
        ∙ rw (part_other p w hd ha (λ e. ne (sym e)) (execution_under p w m.completed.execution)) (empty₁ a ha x)

    sooner_done : (a : ℕ) → Child p n a → Sooner a → Complete p (status_after h₂) a
    sooner_done a ha x = complete_stays p w m.history h₁ second.0 (first.got a ha x)

    third : Staged p w Q n h₂ Later
    third = stage p w Q n k h₂ Later dec_later
        (λ a ha x. let y = after a ha x.0 x.1 in (
          y.history,
          rw (empty₂ a ha (λ e. not_self e x.1) (λ z. z.2 x.1), append-nil y.history)
              y.completed,
          y.holds,
        ))
        (λ a b ha hb x o. at a ha (closed a b x.0 o) (position a)) second.0
      where
        at : (a : ℕ) → Child p n a → D a → Position a → Later a ⊎ Complete p (status_after h₂) a
        at a ha x (sooner y) = inr (sooner_done a ha y)
        at a ha x (self e) = inr (rw e second.1)
        at a ha x (later y) = inl y
        at a ha x (out z) = absurd (z x)

    pub ending : Ending n D
    ending = record {
      history = third.more ++ h₂;
      execution = third.execution;
      got = λ a ha x. done_at a ha x (position a);
      kept = λ a ha x. third.kept a ha (λ y. x y.0) ∙ empty₂ a ha (λ e. x (rw e dd)) (λ y. x y.0);
      is = last_past third.good (last_over h₁ m.holds);
    }
      where
        done_at : (a : ℕ) → Child p n a → D a → Position a → Complete p (status_after (third.more ++ h₂)) a
        done_at a ha x (sooner y) = complete_stays p w third.more h₂ third.execution (sooner_done a ha y)
        done_at a ha x (self e) = complete_stays p w third.more h₂ third.execution (rw e second.1)
        done_at a ha x (later y) = third.got a ha y
        done_at a ha x (out z) = absurd (z x)

  last_all_from : {n : ℕ} → p.tree.kind n ≡ all_of → LastAll n → MayLast p Q H n
  last_all_from {n} k (c, hc, m, after) =
      build (ending k (λ a. Unit {0}) (λ a. yes tt) (λ a b x o. tt) c hc tt m (λ b hb x q. after b hb q))
    where
      build : Ending n (λ a. Unit {0}) → MayLast p Q H n
      build s = record {
        history = s.history;
        completed = record { execution = s.execution; complete = all_done k (λ a ha. s.got a ha tt) };
        holds = s.is;
      }

  -- all_of: some child ends with H, and all that stands after it is quiet
  pub last_all : {n : ℕ} → p.tree.kind n ≡ all_of → MayLast p Q H n ↔ LastAll n
  last_all {n} k = (
    λ m. let a = last_at m.holds in
        last_all_to a.later a.event a.before k (rw a.splits at m.completed) a.hit a.quiet,
    last_all_from k,
  )
