-- Executions of an all_of group, built stage by stage: a set of children is run to its end, each child by an execution
-- of our choice.
use Rattle.runs.proofs.Base.{◌≡◌, refl, sym, ◌∙◌, ◌⊎◌, inl, inr, [], ◌++◌, append_assoc, ℕ, zero, suc, ◌<◌}
use Rattle.runs.proofs.Base.{arith, ℕ_discrete, T}
use Rattle.runs.specs.Plan.{all_of, Plan, Child}
use Rattle.runs.specs.WellFormed.{WellFormed}
use Rattle.runs.specs.Execution.{Event, History, status_after, Complete, Execution, Completed}
use Rattle.runs.proofs.Plan.{dec_child}
use Rattle.runs.specs.Classes.{All, all_nil}
use Rattle.runs.proofs.Execution.Histories.{all_append, all_left}
use Rattle.runs.proofs.Execution.Locality.{complete_local}
use Rattle.runs.proofs.Execution.Parts.{part, after_part, execution_under, part_append, part_other}
use Rattle.runs.proofs.Execution.Extension.{complete_stays, agree_append, extend}

module _ (p : Plan) (w : WellFormed p) where
  -- after h, `more` runs the children of n in D to their end and nothing else; its events are in Q
  pub record Staged (Q : Event → Type 0) (n : ℕ) (h : History) (D : ℕ → Type 0) : Type 0 where
    pub more : History
    pub execution : Execution p n (more ++ h)
    pub got : (c : ℕ) → Child p n c → D c → Complete p (status_after (more ++ h)) c
    pub kept : (c : ℕ) → Child p n c → ¬ D c → part p w c (more ++ h) ≡ part p w c h
    pub good : All Q more

  module _ (Q : Event → Type 0) (n : ℕ) (k : p.tree.kind n ≡ all_of) (h : History) where
    stage_same : {D E : ℕ → Type 0} → ((c : ℕ) → Child p n c → E c → D c) → ((c : ℕ) → Child p n c → D c → E c)
        → Staged Q n h D → Staged Q n h E
    stage_same f g s = record {
      more = s.more;
      execution = s.execution;
      got = λ c hc e. s.got c hc (f c hc e);
      kept = λ c hc ne. s.kept c hc (λ d. ne (g c hc d));
      good = s.good;
    }

    -- one child more
    stage_add : {D : ℕ → Type 0} (i : ℕ) → Child p n i → ¬ D i
        → ((a : ℕ) → Child p n a → T (p.order a i) → D a ⊎ Complete p (status_after h) a)
        → (r : History) → Completed p i (r ++ part p w i h) → All Q r → Staged Q n h D
        → Staged Q n h (λ c. D c ⊎ (c ≡ i))
    stage_add {D} i hi nd o r wh q s = record {
      more = r ++ s.more;
      execution = rw append_assoc free';
      got = λ c hc d. rw append_assoc (got' c hc d);
      kept = λ c hc nd'. rw append_assoc (kept' c hc nd');
      good = all_append q s.good;
    }
      where
        wh' : Completed p i (r ++ part p w i (s.more ++ h))
        wh' = rw (s.kept i hi nd) wh

        preds : (a : ℕ) → D a ⊎ Complete p (status_after h) a → Child p n a → Complete p (status_after (s.more ++ h)) a
        preds a (inl d) ha = s.got a ha d
        preds a (inr c) ha = complete_stays p w s.more h s.execution c

        free' : Execution p n (r ++ (s.more ++ h))
        free' = extend p w r (s.more ++ h) k hi (λ a ha oa. preds a (o a ha oa) ha) s.execution wh'.execution

        got' : (c : ℕ) → Child p n c → D c ⊎ (c ≡ i) → Complete p (status_after (r ++ (s.more ++ h))) c
        got' c hc (inl d) = complete_stays p w r (s.more ++ h) free' (s.got c hc d)
        got' c hc (inr e) = rw e (complete_local p (status_after (r ++ part p w i (s.more ++ h)))
            (status_after (r ++ (s.more ++ h)))
            (agree_append p w i r (part p w i (s.more ++ h)) (s.more ++ h) (after_part p w i (s.more ++ h)))
            wh'.complete)

        kept' : (c : ℕ) → Child p n c → ¬ (D c ⊎ (c ≡ i)) → part p w c (r ++ (s.more ++ h)) ≡ part p w c h
        kept' c hc nd' = part_append p w c r (s.more ++ h)
            ∙ rw (part_other p w hi hc (λ e. nd' (inr (sym e)))
            (all_left r (part p w i (s.more ++ h)) (execution_under p w wh'.execution)))
            (s.kept c hc (λ d. nd' (inl d)))

    module _ (D : ℕ → Type 0) (dec_d : (c : ℕ) → Dec (D c))
        (history : (c : ℕ) → Child p n c → D c → (r : History) × Completed p c (r ++ part p w c h) × All Q r)
        (closed : (a b : ℕ) → Child p n a → Child p n b → D b → T (p.order a b)
        → D a ⊎ Complete p (status_after h) a) where
      abbrev Upto : ℕ → ℕ → ℕ → Type 0
      Upto r i c = D c × ((w.rank c < r) ⊎ ((w.rank c ≡ r) × (c < i)))

      stage_step : (r i : ℕ) → Staged Q n h (Upto r i) → Staged Q n h (Upto r (suc i))
      stage_step r i s = go (dec_child p n i) (dec_d i) (ℕ_discrete (w.rank i) r)
        where
          wider : (c : ℕ) → Upto r i c → Upto r (suc i) c
          wider c (d, inl x) = (d, inl x)
          wider c (d, inr (q, l)) = (d, inr (q, omega arith))

          split : (c : ℕ) → Upto r (suc i) c → Upto r i c ⊎ (c ≡ i)
          split c (d, inl x) = inl (d, inl x)
          split c (d, inr (q, l)) = at (ℕ_discrete c i)
            where
              at : Dec (c ≡ i) → Upto r i c ⊎ (c ≡ i)
              at (yes e) = inr e
              at (no ne) = inl (d, inr (q, omega arith))

          join : D i → w.rank i ≡ r → (c : ℕ) → Upto r i c ⊎ (c ≡ i) → Upto r (suc i) c
          join di q c (inl u) = wider c u
          join di q c (inr e) = rw e (di, inr (q, omega arith))

          new : Child p n i → D i → w.rank i ≡ r → Staged Q n h (Upto r (suc i))
          new hi di q = let (g, wh, al) = history i hi di in
              stage_same (λ c hc u. split c u) (λ c hc u. join di q c u)
              (stage_add i hi (λ u. fresh u.1) (λ a ha o. pred a o (closed a i ha hi di o)) g wh al s)
            where
              fresh : (w.rank i < r) ⊎ ((w.rank i ≡ r) × (i < i)) → ⊥
              fresh (inl x) = omega arith
              fresh (inr (y, x)) = omega arith

              pred : (a : ℕ) → T (p.order a i) → D a ⊎ Complete p (status_after h) a
                  → Upto r i a ⊎ Complete p (status_after h) a
              pred a o (inl d) = inl (d, inl (omega (arith, w.rank_rises a i o)))
              pred a o (inr c) = inr c

          same : ((c : ℕ) → Child p n c → c ≡ i → D i → w.rank i ≡ r → ⊥) → Staged Q n h (Upto r (suc i))
          same not_i = stage_same (λ c hc u. at c hc u (split c u)) (λ c hc u. wider c u) s
            where
              rank_of_lem : (c : ℕ) → Upto r (suc i) c → c ≡ i → Upto r i c ⊎ (w.rank c ≡ r)
              rank_of_lem c (d, inl x) e = inl (d, inl x)
              rank_of_lem c (d, inr (q, l)) e = inr q

              at : (c : ℕ) → Child p n c → Upto r (suc i) c → Upto r i c ⊎ (c ≡ i) → Upto r i c
              at c hc u (inl x) = x
              at c hc u (inr e) = at' (rank_of_lem c u e)
                where
                  at' : Upto r i c ⊎ (w.rank c ≡ r) → Upto r i c
                  at' (inl x) = x
                  at' (inr q) = absurd (not_i c hc e (rw e at u.0) (rw e at q))

          go : Dec (Child p n i) → Dec (D i) → Dec (w.rank i ≡ r) → Staged Q n h (Upto r (suc i))
          go (yes hi) (yes di) (yes q) = new hi di q
          go (yes hi) (yes di) (no ne) = same (λ c hc e d q. ne q)
          go (yes hi) (no nd) x = same (λ c hc e d q. nd d)
          go (no ni) x y = same (λ c hc e d q. ni (rw e at hc))

      stage_row : (r i : ℕ) → Staged Q n h (Upto r 0) → Staged Q n h (Upto r i)
      stage_row r zero s = s
      stage_row r (suc i) s = stage_step r i (stage_row r i s)

      stage_rows : (r : ℕ) → Execution p n h → Staged Q n h (Upto r 0)
      stage_rows zero f = record {
        more = [];
        execution = f;
        got = λ c hc u. absurd (none_at c u.1);
        kept = λ c hc nd. refl;
        good = all_nil;
      }
        where
          none_at : (c : ℕ) → (w.rank c < 0) ⊎ ((w.rank c ≡ 0) × (c < 0)) → ⊥
          none_at c (inl x) = omega arith
          none_at c (inr (q, l)) = omega arith
      stage_rows (suc r) f = stage_same (λ c hc u. (u.0, down c hc u.1)) (λ c hc u. (u.0, up c hc u.1))
          (stage_row r p.tree.size (stage_rows r f))
        where
          down : (c : ℕ) → Child p n c → (w.rank c < suc r) ⊎ ((w.rank c ≡ suc r) × (c < 0))
              → (w.rank c < r) ⊎ ((w.rank c ≡ r) × (c < p.tree.size))
          down c hc (inl x) = at (ℕ_discrete (w.rank c) r)
            where
              at : Dec (w.rank c ≡ r) → (w.rank c < r) ⊎ ((w.rank c ≡ r) × (c < p.tree.size))
              at (yes e) = inr (e, w.node_below c hc.node)
              at (no ne) = inl (omega arith)
          down c hc (inr (q, l)) = absurd (omega arith)

          up : (c : ℕ) → Child p n c → (w.rank c < r) ⊎ ((w.rank c ≡ r) × (c < p.tree.size))
              → (w.rank c < suc r) ⊎ ((w.rank c ≡ suc r) × (c < 0))
          up c hc (inl x) = inl (omega arith)
          up c hc (inr (q, l)) = inl (omega arith)

      -- any set of children that is closed under what is ordered before can be run to its end, each by an execution of
      -- our choice
      pub stage : Execution p n h → Staged Q n h D
      stage f = stage_same (λ c hc d. (d, inl (w.rank_below c hc.node))) (λ c hc u. u.0)
          (stage_rows p.tree.size f)
