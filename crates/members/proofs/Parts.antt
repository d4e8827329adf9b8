-- The plan of the members: it is well formed, and the only one; with nobody aboard it is CLEAR, with everybody it is
-- the plan itself.
use Rattle.runs.proofs.Base.{◌≡◌, refl, sym, ◌∙◌, fun_ext, inl, inr, ◌↔◌, Bool, ◌∷◌, ℕ, arith, T}
use Rattle.runs.specs.Plan.{Kind, all_of, any_of, Conditions, Plan, itself, Child, Concurrent, at_group, deeper}
use Rattle.runs.specs.WellFormed.{WellFormed}
use Rattle.runs.specs.Execution.{Event, History, status_after, Execution}
use Rattle.runs.specs.Summary.{MayClobber}
use Rattle.runs.specs.Verdict.{Verdict, Clear, Judged}
use Rattle.runs.specs.Blocked.{Stands}
use Rattle.runs.specs.Model.Blocked.{stands, standing_order}
use Rattle.members.specs.Members.{Remains, OfMembers, MembersJudged}
use Rattle.members.specs.Model.{outsider, members_of}
use Rattle.runs.proofs.Reflect.{clash, Reflects, same_test, r_map, r_both, r_negate, r_T}
use Rattle.runs.proofs.Plan.Reflect.{r_child}
use Rattle.runs.proofs.Execution.Locality.{branch_of}
use Rattle.runs.proofs.Execution.Parts.{execution_last, earlier_execution}
use Rattle.runs.proofs.Blocked.Standing.{Cuts, r_stands, r_standing_order, stands_down, standing_child, child_stands}
use Rattle.runs.proofs.Blocked.Standing.{without_well_formed, nothing_absent}

-- a plan from its parts
abbrev plan_from : ℕ → (ℕ → Bool) → (ℕ → Kind) → (ℕ → ℕ) → Conditions → (ℕ → ℕ → Bool) → Plan
plan_from n h k u c o = record { tree = record { size = n; here = h; kind = k; parent = u }; conditions = c; order = o }

same_plan : {n n' : ℕ} {h h' : ℕ → Bool} {k k' : ℕ → Kind} {u u' : ℕ → ℕ} {c c' : Conditions} {o o' : ℕ → ℕ → Bool}
    → n ≡ n' → h ≡ h' → k ≡ k' → u ≡ u' → c ≡ c' → o ≡ o' → plan_from n h k u c o ≡ plan_from n' h' k' u' c' o'
same_plan a b d e f g = rw (a, b, d, e, f, g) refl

module _ (p : Plan) (w : WellFormed p) (A : ℕ → Bool) where
  pub r_outsider : (c : ℕ) → Reflects (outsider p A c) (Child p 0 c × (¬ T (A c)))
  unfolding outsider
  r_outsider c = r_both _ _ (r_child p 0 c) (r_negate _ (r_T (A c)))

  -- what remains stands, and the other way round
  pub remains_stands : (i : ℕ) → Stands p (outsider p A) i ↔ Remains p A i
  remains_stands i = (
    λ x. record { node = x.node; outside = λ c h k. x.outside c ((r_outsider c).from (h, k)) },
    λ x. record { node = x.node; outside = λ s y. let (h, k) = (r_outsider s).to y in x.outside s h k },
  )

  r_remains : (i : ℕ) → Reflects (stands p (outsider p A) i) (Remains p A i)
  r_remains i = r_map (remains_stands i) (r_stands p w (outsider p A) i)

  r_order : (i j : ℕ) → Reflects (standing_order p (outsider p A) i j)
      (T (p.order i j) × (Remains p A i × Remains p A j))
  r_order i j = r_map (
    λ x. (x.0, ((remains_stands i).0 x.1.0, (remains_stands j).0 x.1.1)),
    λ x. (x.0, ((remains_stands i).1 x.1.0, (remains_stands j).1 x.1.1)),
  ) (r_standing_order p w (outsider p A) i j)

  -- the plan computed is the plan of the members, and there is no other
  pub of_members : OfMembers p A (members_of p A)
  of_members = record {
    size = refl;
    kinds = refl;
    parents = refl;
    conditions = refl;
    nodes = λ i. ((r_remains i).to, (r_remains i).from);
    orders = λ i j. ((r_order i j).to, (r_order i j).from);
  }

  pub only_members : {q : Plan} → OfMembers p A q → q ≡ members_of p A
  only_members {q} m = same_plan m.size nodes m.kinds m.parents m.conditions orders
    where
      nodes : q.tree.here ≡ stands p (outsider p A)
      nodes = fun_ext (λ i. same_test _ _ (r_map (m.nodes i) (r_T _)) (r_remains i))

      orders : q.order ≡ standing_order p (outsider p A)
      orders = fun_ext (λ i. fun_ext (λ j. same_test _ _ (r_map (m.orders i j) (r_T _)) (r_order i j)))

  pub members_judged : {F : ℕ → Bool} {v : Verdict} → MembersJudged p A F v ↔ Judged (members_of p A) F v
  members_judged = (
    λ x. rw (only_members x.members) at x.judged,
    λ j. record { plan = members_of p A; members = of_members; judged = j },
  )

  -- everybody aboard
  pub everybody : ((c : ℕ) → Child p 0 c → T (A c)) → members_of p A ≡ p
  everybody g = nothing_absent p w (outsider p A) (λ s y. let (h, k) = (r_outsider s).to y in k (g s h))

  module _ (kr : p.tree.kind 0 ≡ all_of) where
    -- only the root loses children
    pub members_cuts : Cuts p (outsider p A)
    members_cuts = record {
      not_root = λ s x. ((r_outsider s).to x).0.not_root;
      of_choice = λ s x z. absurd (omega (arith, z, ((r_outsider s).to x).0.up));
      branch_left = λ g l k. let x : Stands p (outsider p A) g = (r_stands p w (outsider p A) g).to l in let
          (c, hc) = w.some_branch g x.node k in (
            c,
            standing_child p w (outsider p A) hc
                (stands_down p w (outsider p A) hc (λ y. not_of_root g c k hc ((r_outsider c).to y).0) x),
          );
    }
      where
        not_of_root : (g c : ℕ) → p.tree.kind g ≡ any_of → Child p g c → Child p 0 c → ⊥
        not_of_root g c k hc h =
            let e : g ≡ 0 = sym hc.up ∙ h.up in let q : p.tree.kind 0 ≡ any_of = rw e at k in clash cc

    pub members_well_formed : WellFormed (members_of p A)
    members_well_formed = without_well_formed p w (outsider p A) members_cuts

    -- nobody aboard
    module _ (none : (c : ℕ) → ¬ T (A c)) where
      abbrev q : Plan
      q = members_of p A

      no_children : {c : ℕ} → ¬ Child q 0 c
      no_children {c} h = let (hc, y) = child_stands p w (outsider p A) h in
          y.outside c ((r_outsider c).from (hc, none c)) itself

      no_event : {e : Event} {h : History} → Execution q 0 (e ∷ h) → ⊥
      no_event {e} {h} x =
          no_children (branch_of q members_well_formed (status_after h) kr
          (execution_last q members_well_formed x)).child

      no_two : {t u : ℕ} → ¬ Concurrent q t u 0
      no_two (at_group k c d hc hd un ut uu) = no_children hc
      no_two (deeper c hc x) = no_children hc

      pub nobody_clear : (F : ℕ → Bool) → Clear q F
      nobody_clear F = record {
        no_clobber = λ f v. no_clobber;
        no_pre = λ f v z x. no_event (earlier_execution q members_well_formed x.holds.at x.completed.execution);
      }
        where
          no_clobber : {f : ℕ} {v : Bool} → ¬ MayClobber q f v 0
          no_clobber (inl x) = no_event x.execution
          no_clobber (inr x) = no_two x.concurrent
