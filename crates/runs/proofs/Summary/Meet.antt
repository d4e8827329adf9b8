-- Meet (`MayMeet`): its rules by children.
use Rattle.runs.proofs.Base.{◌≡◌, ◌∙◌, ◌⊎◌, inl, inr, ◌↔◌, [], ◌∷◌, ◌++◌, append-nil, ℕ, arith}
use Rattle.runs.specs.Plan.{task, all_of, any_of, optional, Plan, Child, Before, direct, chain}
use Rattle.runs.specs.WellFormed.{WellFormed}
use Rattle.runs.specs.Execution.{Event, start, finish, skip, History, node_of, status_after}
use Rattle.runs.proofs.Plan.{child_under, Branch, before_rank, dec_before}
use Rattle.runs.specs.Classes.{All, all_nil, all_cons, MayQuiet, MayMeet}
use Rattle.runs.proofs.Execution.{completed_before, all_append, branch_of, part, part_nil, part_in}
use Rattle.runs.proofs.Execution.{part_execution, execution_last, part_all, pick_join, any_split, extend, Staged}
use Rattle.runs.proofs.Execution.{TaskExecution, begun, ended, task_execution, task_begun, task_ended, picks_any}
use Rattle.runs.proofs.Execution.{picks_optional, pick_split, OneOf, through, skipped, skip_completed}
use Rattle.runs.proofs.Summary.Quiet.{quiet_stage}

module _ (p : Plan) (w : WellFormed p) (Q H : Event → Type 0) where
  -- task: the start is in H, or it is in Q and the finish is in H
  pub meet_task : {n : ℕ} → p.tree.kind n ≡ task → MayMeet p Q H n ↔ (H (start n) ⊎ (Q (start n) × H (finish n)))
  meet_task {n} k = (λ m. to (task_execution p w k m.execution) m.hit m.quiet, from)
    where
      to : {e : Event} {r : History} → TaskExecution n (e ∷ r) → H e → All Q r
          → H (start n) ⊎ (Q (start n) × H (finish n))
      to begun h q = inl h
      to ended h (all_cons q a) = inr (q, h)

      from : H (start n) ⊎ (Q (start n) × H (finish n)) → MayMeet p Q H n
      from (inl h) = record { event = start n; before = []; execution = task_begun p w k; hit = h; quiet = all_nil }
      from (inr (q, h)) = record {
        event = finish n;
        before = start n ∷ [];
        execution = (task_ended p w k).execution;
        hit = h;
        quiet = all_cons q all_nil;
      }

  -- any_of: some branch
  pub meet_any : {n : ℕ} → p.tree.kind n ≡ any_of → MayMeet p Q H n ↔ ((c : ℕ) × Child p n c × MayMeet p Q H c)
  meet_any {n} k = (
    λ m. let (c, hc, x) = any_split p w k m.execution in (
      c,
      hc,
      record { event = m.event; before = m.before; execution = x; hit = m.hit; quiet = m.quiet },
    ),
    λ x. record {
      event = x.2.event;
      before = x.2.before;
      execution = pick_join p w (picks_any k) x.1 x.2.execution;
      hit = x.2.hit;
      quiet = x.2.quiet;
    },
  )

  -- optional: some branch, or the skip is in H
  pub meet_optional : {n : ℕ} → p.tree.kind n ≡ optional → MayMeet p Q H n ↔
      (((c : ℕ) × Child p n c × MayMeet p Q H c) ⊎ H (skip n))
  meet_optional {n} k = (λ m. to m (pick_split p w (picks_optional k) m.execution), from)
    where
      to : (m : MayMeet p Q H n) → OneOf p w n (m.event ∷ m.before)
          → ((c : ℕ) × Child p n c × MayMeet p Q H c) ⊎ H (skip n)
      to m (through c hc x) = inl (
        c,
        hc,
        record { event = m.event; before = m.before; execution = x; hit = m.hit; quiet = m.quiet },
      )
      to m (skipped kn q) = let z : m.event ≡ skip n = cc in inr (rw z at m.hit)

      from : ((c : ℕ) × Child p n c × MayMeet p Q H c) ⊎ H (skip n) → MayMeet p Q H n
      from (inl (c, hc, m)) = record {
        event = m.event;
        before = m.before;
        execution = pick_join p w (picks_optional k) hc m.execution;
        hit = m.hit;
        quiet = m.quiet;
      }
      from (inr h) = record {
        event = skip n;
        before = [];
        execution = (skip_completed p w k).execution;
        hit = h;
        quiet = all_nil;
      }

  abbrev MeetAll : ℕ → Type 0
  MeetAll n = (c : ℕ) × Child p n c × MayMeet p Q H c × ((a : ℕ) → Before p a c → MayQuiet p Q a)

  meet_all_to : {n : ℕ} → p.tree.kind n ≡ all_of → MayMeet p Q H n → MeetAll n
  meet_all_to {n} k m = (
    b.via,
    b.child,
    record {
      event = m.event;
      before = part p w b.via m.before;
      execution = rw (part_in p w b.via m.event m.before b.beneath) at
          (part_execution p w (child_under p b.child) m.execution);
      hit = m.hit;
      quiet = part_all p w b.via m.quiet;
    },
    λ a q. record {
      history = part p w a m.before;
      completed = completed_before p w m.event m.before b.child m.execution b.beneath q;
      holds = part_all p w a m.quiet;
    },
  )
    where
      b : Branch p n (node_of m.event)
      b = branch_of p w (status_after m.before) k (execution_last p w m.execution)

  meet_all_from : {n : ℕ} → p.tree.kind n ≡ all_of → MeetAll n → MayMeet p Q H n
  meet_all_from {n} k (c, hc, m, before) =
      build (quiet_stage p w Q k (λ a. Before p a c) (λ a. dec_before p w a c) (λ a b ha hb q o. chain o q)
      (λ a ha q. before a q))
    where
      build : Staged p w Q n [] (λ a. Before p a c) → MayMeet p Q H n
      build s = record {
        event = m.event;
        before = m.before ++ (s.more ++ []);
        hit = m.hit;
        quiet = all_append m.quiet (all_append s.good all_nil);
        execution = extend p w (m.event ∷ m.before) (s.more ++ []) k hc (λ a ha o. s.got a ha (direct o))
            s.execution
            (rw (
              s.kept c hc (λ q. omega (arith, before_rank p w q)) ∙ part_nil p w c,
              append-nil (m.event ∷ m.before),
            ) m.execution);
      }

  -- all_of: some child meets H, and all that stands before it is quiet
  pub meet_all : {n : ℕ} → p.tree.kind n ≡ all_of → MayMeet p Q H n ↔ MeetAll n
  meet_all {n} k = (meet_all_to k, meet_all_from k)
