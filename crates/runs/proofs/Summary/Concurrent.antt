-- Tasks that run at once: if two do after some execution, they stand under unordered children of one all_of group; and
-- any two such tasks can be made to.
use Rattle.runs.proofs.Base.{◌≡◌, refl, sym, ap, ◌∙◌, ◌≢◌, ◌⊎◌, inl, inr, Bool, not, some, [], ◌∷◌, ◌++◌}
use Rattle.runs.proofs.Base.{append-nil, ℕ, ℕ_discrete, T}
use Rattle.runs.specs.Plan.{Kind, task, all_of, any_of, optional, Picks, Plan, Node, Child, Under, Before, direct}
use Rattle.runs.specs.Plan.{chain, Unordered, Concurrent, at_group, deeper}
use Rattle.runs.specs.WellFormed.{WellFormed}
use Rattle.runs.specs.Execution.{running, Event, start, finish, skip, History, node_of, status_after, Complete}
use Rattle.runs.specs.Execution.{Begun, Execution, asserts}
use Rattle.runs.specs.Summary.{Opposed}
use Rattle.runs.proofs.Reflect.{clash, not_not, dec_or}
use Rattle.runs.proofs.Plan.{child_under, Branch, branch, from_leaves, before_irrefl, dec_before}
use Rattle.runs.specs.Classes.{Anything}
use Rattle.runs.proofs.Execution.{after_nil, after_same, after_other, all_of_rests, part, part_nil, after_part}
use Rattle.runs.proofs.Execution.{part_execution, part_complete, execution_tail, execution_last, execution_under}
use Rattle.runs.proofs.Execution.{part_append, part_own, part_other, complete_stays, agree_append, extend}
use Rattle.runs.proofs.Execution.{Staged, picks_any, picks_optional, pick_join, skip_completed, OneOf, through}
use Rattle.runs.proofs.Execution.{skipped, pick_execution, before_complete, under_task, running_moved}
use Rattle.runs.proofs.Execution.{finish_runs, running_task, moved_under, none_runs}
use Rattle.runs.proofs.Summary.Quiet.{quiet_stage, quiet_anything}
use Rattle.runs.proofs.Summary.Reach.{reached}

-- t and u run after some execution of n
pub record AtOnce (p : Plan) (n t u : ℕ) : Type 0 where
  pub history : History
  pub execution : Execution p n history
  pub runs : status_after history t ≡ running
  pub runs_too : status_after history u ≡ running

-- in an all_of group n: under one child, or under two unordered ones
pub data Placed (p : Plan) (n t u : ℕ) : Type 0 where
  under_one : (c : ℕ) → Child p n c → Under p c t → Under p c u → Placed p n t u
  under_two : (c d : ℕ) → Child p n c → Child p n d → Unordered p c d → Under p c t → Under p d u → Placed p n t u

module _ (p : Plan) (w : WellFormed p) where
  -- an event that asserts something comes while t runs: at some moment t and the event's task both run
  pub overlap : {n : ℕ} {h : History} (f : ℕ) (v : Bool) (e : Event) (t : ℕ) → asserts p e f ≡ some v
      → Execution p n (e ∷ h) → node_of e ≢ t → status_after h t ≡ running → AtOnce p n t (node_of e)
  overlap {h = h} f v (start u) t q fr ne r = record {
    history = start u ∷ h;
    execution = fr;
    runs = after_other (start u) h t (λ z. ne (sym z)) ∙ r;
    runs_too = after_same (start u) h;
  }
  overlap {h = h} f v (finish u) t q fr ne r = record {
    history = h;
    execution = execution_tail p w fr;
    runs = r;
    runs_too = finish_runs (execution_last p w fr);
  }
  overlap f v (skip g) t q fr ne r = clash cc

  -- neither task's child stands before the other's: what stands before a child that has begun is complete, so nothing
  -- runs there
  pub placed : {n t u : ℕ} → p.tree.kind n ≡ all_of → AtOnce p n t u → Placed p n t u
  placed {n} {t} {u} kn x = go (at x.runs) (at x.runs_too)
    where
      h : History
      h = x.history

      at : {y : ℕ} → status_after h y ≡ running → Branch p n y
      at {y} r = in_branch (branch p (moved_under p w x.execution y (running_moved r)))
        where
          in_branch : (n ≡ y) ⊎ Branch p n y → Branch p n y
          in_branch (inl q) = absurd (all_of_rests p w (start y) kn (running_task p w x.execution y r) q)
          in_branch (inr b) = b

      not_before : {y z : ℕ} (a : Branch p n y) (b : Branch p n z) → status_after h y ≡ running
          → status_after h z ≡ running → ¬ Before p a.via b.via
      not_before {y} {z} a b ry rz q = none_runs p w a.child.node (part_execution p w (child_under p a.child)
          x.execution) ((part_complete p w a.via h).0 (before_complete p w x.execution b.child q begun)) y
          (after_part p w a.via h y a.beneath ∙ ry)
        where
          begun : Begun p (status_after h) b.via
          begun = record {
            who = z;
            moves = rw (running_task p w x.execution z rz) tt;
            beneath = b.beneath;
            begun = running_moved rz;
          }

      go : Branch p n t → Branch p n u → Placed p n t u
      go a b = same (ℕ_discrete a.via b.via)
        where
          same : Dec (a.via ≡ b.via) → Placed p n t u
          same (yes q) = under_one a.via a.child a.beneath (rw q b.beneath)
          same (no k) = under_two a.via b.via a.child b.child (record {
            distinct = k;
            not_before = not_before a b x.runs x.runs_too;
            not_after = not_before b a x.runs_too x.runs;
          }) a.beneath b.beneath

  -- two tasks that run at once stand under unordered children of one all_of group
  pub at_once_concurrent : {t u : ℕ} → t ≢ u → (n : ℕ) → Node p n → AtOnce p n t u → Concurrent p t u n
  at_once_concurrent {t} {u} ne = from_leaves p w (λ n. AtOnce p n t u → Concurrent p t u n) step
    where
      step : (n : ℕ) → Node p n → ((c : ℕ) → Child p n c → AtOnce p c t u → Concurrent p t u c) → AtOnce p n t u
          → Concurrent p t u n
      step n l ih x = go (p.tree.kind n) refl
        where
          h : History
          h = x.history

          own : p.tree.kind n ≡ task → {y : ℕ} → status_after h y ≡ running → n ≡ y
          own k {y} r = under_task p w k (moved_under p w x.execution y (running_moved r))

          in_all_of : p.tree.kind n ≡ all_of → Placed p n t u → Concurrent p t u n
          in_all_of k (under_one c hc ut uu) = deeper c hc (ih c hc (record {
            history = part p w c h;
            execution = part_execution p w (child_under p hc) x.execution;
            runs = after_part p w c h t ut ∙ x.runs;
            runs_too = after_part p w c h u uu ∙ x.runs_too;
          }))
          in_all_of k (under_two c d hc hd un ut uu) = at_group k c d hc hd un ut uu

          in_choice : (h ≡ []) ⊎ OneOf p w n h → Concurrent p t u n
          in_choice (inl q) = absurd (running_moved x.runs (rw q (after_nil t)))
          in_choice (inr (through c hc f)) = deeper c hc (ih c hc (record {
            history = h;
            execution = f;
            runs = x.runs;
            runs_too = x.runs_too;
          }))
          in_choice (inr (skipped kn q)) = absurd
              (none_runs p w l x.execution (rw q (skip_completed p w kn).complete) t x.runs)

          go : (k : Kind) → p.tree.kind n ≡ k → Concurrent p t u n
          go task k = absurd (ne (sym (own k x.runs) ∙ own k x.runs_too))
          go all_of k = in_all_of k (placed k x)
          go any_of k = in_choice ((pick_execution p w h (picks_any k)).0 x.execution)
          go optional k = in_choice ((pick_execution p w h (picks_optional k)).0 x.execution)

  -- either way round: opposite leavings concern both literals of a flag
  concurrent_sym : {t u n : ℕ} → Concurrent p t u n → Concurrent p u t n
  concurrent_sym (at_group k c d hc hd un ut uu) = at_group k d c hd hc (record {
    distinct = λ q. un.distinct (sym q);
    not_before = un.not_after;
    not_after = un.not_before;
  }) uu ut
  concurrent_sym (deeper c hc x) = deeper c hc (concurrent_sym x)

  pub opposed_both : {n f : ℕ} {v : Bool} → Opposed p f v n → Opposed p f (not v) n
  opposed_both {v = v} x = record {
    who = x.other;
    other = x.who;
    concurrent = concurrent_sym x.concurrent;
    leaves = x.opposes;
    opposes = x.leaves ∙ ap some (sym (not_not v));
  }

  -- a closed set of children of an all_of group, run to its end anyhow
  prepare : {n : ℕ} → p.tree.kind n ≡ all_of → (D : ℕ → Type 0) → ((c : ℕ) → Dec (D c))
      → ((a b : ℕ) → D b → T (p.order a b) → D a) → Staged p w Anything n [] D
  prepare kn D dec_d closed = quiet_stage p w Anything kn D dec_d (λ a b ha hb d o. closed a b d o)
      (λ a ha d. quiet_anything p w a ha.node)

  -- after `before`, which does nothing under c, n can do what its child c can do by itself
  pub record Opened (n c : ℕ) : Type 0 where
    pub before : History
    pub execution : (g : History) → Execution p c g → Execution p n (g ++ before)
    pub same : (g : History) (x : ℕ) → Under p c x → status_after (g ++ before) x ≡ status_after g x

  pub opened : {n c : ℕ} → Child p n c → Opened n c
  opened {n} {c} hc = go (p.tree.kind n) refl
    where
      at_all_of : p.tree.kind n ≡ all_of → Opened n c
      at_all_of kn = record {
        before = h;
        execution = λ g f. extend p w g h kn hc (λ a ha o. s.got a ha (direct o)) s.execution
            (rw (empty, append-nil g) f);
        same = λ g x u. sym (rw (empty, append-nil g) at (agree_append p w c g (part p w c h) h (after_part p w c h) x
            u));
      }
        where
          s : Staged p w Anything n [] (λ a. Before p a c)
          s = prepare kn (λ a. Before p a c) (λ a. dec_before p w a c) (λ a b q o. chain o q)

          h : History
          h = s.more ++ []

          empty : part p w c h ≡ []
          empty = s.kept c hc (before_irrefl p w) ∙ part_nil p w c

      at_choice : Picks (p.tree.kind n) → Opened n c
      at_choice k = record {
        before = [];
        execution = λ g f. rw (append-nil g) (pick_join p w k hc f);
        same = λ g x u. rw (append-nil g);
      }

      go : (k : Kind) → p.tree.kind n ≡ k → Opened n c
      go task k = absurd (w.parent_group c hc.not_root hc.node (ap p.tree.kind hc.up ∙ k))
      go all_of k = at_all_of k
      go any_of k = at_choice (picks_any k)
      go optional k = at_choice (picks_optional k)

  module _ {n : ℕ} (kn : p.tree.kind n ≡ all_of) where
    -- both c and d are ready, neither has begun
    pub record BothReady (c d : ℕ) : Type 0 where
      pub h : History
      pub execution : Execution p n h
      pub done_c : (a : ℕ) → Child p n a → T (p.order a c) → Complete p (status_after h) a
      pub done_d : (a : ℕ) → Child p n a → T (p.order a d) → Complete p (status_after h) a
      pub empty_c : part p w c h ≡ []
      pub empty_d : part p w d h ≡ []

    pub both_ready : (c d : ℕ) → Child p n c → Child p n d → Unordered p c d → BothReady c d
    both_ready c d hc hd un = record {
      h = s.more ++ [];
      execution = s.execution;
      done_c = λ a ha o. s.got a ha (inl (direct o));
      done_d = λ a ha o. s.got a ha (inr (direct o));
      empty_c = s.kept c hc not_c ∙ part_nil p w c;
      empty_d = s.kept d hd not_d ∙ part_nil p w d;
    }
      where
        dec_d : (a : ℕ) → Dec (Before p a c ⊎ Before p a d)
        dec_d a = dec_or (dec_before p w a c) (dec_before p w a d)

        closed : (a b : ℕ) → Before p b c ⊎ Before p b d → T (p.order a b) → Before p a c ⊎ Before p a d
        closed a b (inl q) o = inl (chain o q)
        closed a b (inr q) o = inr (chain o q)

        s : Staged p w Anything n [] (λ a. Before p a c ⊎ Before p a d)
        s = prepare kn (λ a. Before p a c ⊎ Before p a d) dec_d closed

        not_c : Before p c c ⊎ Before p c d → ⊥
        not_c (inl q) = before_irrefl p w q
        not_c (inr q) = un.not_before q

        not_d : Before p d c ⊎ Before p d d → ⊥
        not_d (inl q) = un.not_after q
        not_d (inr q) = before_irrefl p w q

    module _ (c d : ℕ) (hc : Child p n c) (hd : Child p n d) (un : Unordered p c d) where
      -- c goes as far as k₁, then d as far as k₂
      pub both_go : (u : BothReady c d) (k₁ k₂ : History) → Execution p c k₁ → Execution p d k₂
          → Execution p n (k₂ ++ (k₁ ++ u.h))
      both_go u k₁ k₂ f₁ f₂ = extend p w k₂ (k₁ ++ u.h) kn hd (λ a ha o. complete_stays p w k₁ u.h one
          (u.done_d a ha o)) one (rw (still_d, append-nil k₂) f₂)
        where
          one : Execution p n (k₁ ++ u.h)
          one = extend p w k₁ u.h kn hc u.done_c u.execution (rw (u.empty_c, append-nil k₁) f₁)

          still_d : part p w d (k₁ ++ u.h) ≡ []
          still_d = part_append p w d k₁ u.h ∙ rw (part_other p w hc hd un.distinct (execution_under p w f₁))
              u.empty_d

      pub still_c : (u : BothReady c d) (k₁ k₂ : History) → Execution p c k₁ → Execution p d k₂
          → part p w c (k₂ ++ (k₁ ++ u.h)) ≡ k₁
      still_c u k₁ k₂ f₁ f₂ = part_append p w c k₂ (k₁ ++ u.h) ∙ rw (part_other p w hd hc (λ q. un.distinct (sym q))
          (execution_under p w f₂)) (part_append p w c k₁ u.h
          ∙ rw (part_own p w (execution_under p w f₁), u.empty_c) (append-nil k₁))

      -- so what runs in c by itself runs then
      pub runs_c : (u : BothReady c d) (k₁ k₂ : History) → Execution p c k₁ → Execution p d k₂ → (t : ℕ) → Under p c t
          → status_after k₁ t ≡ running → status_after (k₂ ++ (k₁ ++ u.h)) t ≡ running
      runs_c u k₁ k₂ f₁ f₂ t ut r = sym (after_part p w c (k₂ ++ (k₁ ++ u.h)) t ut) ∙ rw (still_c u k₁ k₂ f₁ f₂) r

  -- any two tasks under unordered children of one all_of group can be made to run at once
  pub concurrent_at_once : {t u n : ℕ} → p.tree.kind t ≡ task → p.tree.kind u ≡ task → Concurrent p t u n
      → AtOnce p n t u
  concurrent_at_once {t} {u} {n} kt ku (at_group kn c d hc hd un ut uu) = build (both_ready kn c d hc hd un)
    where
      build : BothReady kn c d → AtOnce p n t u
      build b = let (r₁, f₁) = reached p w hc.node (start t) kt ut in let (r₂, f₂) = reached p w hd.node
          (start u) ku uu in record {
            history = (start u ∷ r₂) ++ ((start t ∷ r₁) ++ b.h);
            execution = both_go kn c d
                hc hd un b (start t ∷ r₁) (start u ∷ r₂) f₁ f₂;
            runs = runs_c kn c d hc hd un b (start t ∷ r₁) (start u ∷ r₂)
                f₁ f₂ t ut (after_same (start t) r₁);
            runs_too = after_same (start u) (r₂ ++ ((start t ∷ r₁) ++ b.h));
          }
  concurrent_at_once {t} {u} {n} kt ku (deeper c hc x) = up (concurrent_at_once kt ku x) (opened hc)
    where
      up : AtOnce p c t u → Opened n c → AtOnce p n t u
      up a o = record {
        history = a.history ++ o.before;
        execution = o.execution a.history a.execution;
        runs = o.same a.history t (moved_under p w a.execution t (running_moved a.runs)) ∙ a.runs;
        runs_too = o.same a.history u (moved_under p w a.execution u (running_moved a.runs_too))
            ∙ a.runs_too;
      }
