-- What a call answers, and what a list of calls does: what computes is it, and nothing else is.
use Rattle.runs.proofs.Base.{◌≡◌, refl, sym, ap, ◌∙◌, ◌≢◌, ◌⊎◌, inl, inr, ◌↔◌, Bool, true, false, List, []}
use Rattle.runs.proofs.Base.{◌∷◌, ℕ, cond, ◌≤◌, T, arith}
use Rattle.base.specs.Answers.{refused_or}
use Rattle.base.proofs.First.{cond_limit}
use Rattle.runs.specs.Plan.{all_of, Plan, Node, Child}
use Rattle.runs.specs.Tests.{negate, same_b}
use Rattle.runs.specs.WellFormed.{WellFormed}
use Rattle.runs.specs.Verdict.{Verdict, Judged}
use Rattle.runs.specs.Model.Verdicts.{verdict}
use Rattle.members.specs.Members.{MembersJudged, MemberCall, changed, Refused31, other_root, no_child}
use Rattle.members.specs.Members.{MemberAnswered, refused_17, refused_31, refused_32, changes, MembersWorked}
use Rattle.members.specs.Members.{no_calls, next_call}
use Rattle.members.specs.Model.{members_of, kept_or, refused31_b, member_refusal, member_answer, members_after}
use Rattle.members.specs.Model.{member_answers, members_after_all}
use Rattle.runs.proofs.Reflect.{Reflects, decided, force, r_map, r_either, r_negate, r_T, r_same}
use Rattle.runs.proofs.Plan.Reflect.{r_kind, r_child}
use Rattle.runs.proofs.Verdict.Exact.{verdict_exact}
use Rattle.members.proofs.Parts.{members_judged, members_well_formed}

-- 17, 31 and 32, one after another
abbrev refusing : Bool → Bool → Bool → ℕ
refusing a b d = cond a 17 (cond b 31 (cond d 32 0))

module _ (p : Plan) (w : WellFormed p) (F : ℕ → Bool) where
  pub r_31 : (n : ℕ) → Reflects (refused31_b p n) (Refused31 p n)
  unfolding refused31_b
  r_31 n = r_map (to, from) (r_either _ _ (r_negate _ (r_kind _ _)) (r_negate _ (r_child p 0 n)))
    where
      to : (p.tree.kind 0 ≢ all_of) ⊎ (¬ Child p 0 n) → Refused31 p n
      to (inl k) = other_root k
      to (inr k) = no_child k

      from : Refused31 p n → (p.tree.kind 0 ≢ all_of) ⊎ (¬ Child p 0 n)
      from (other_root k) = inl k
      from (no_child k) = inr k

  pub all_of_root : {n : ℕ} → ¬ Refused31 p n → p.tree.kind 0 ≡ all_of
  all_of_root k = force (decided (r_kind _ _)) (λ n. k (other_root n))

  pub called_child : {n : ℕ} → ¬ Refused31 p n → Child p 0 n
  called_child {n} k = force (decided (r_child p 0 n)) (λ h. k (no_child h))

  is_node : (n : ℕ) → ¬ ¬ Node p n → Node p n
  is_node n k = force (decided (r_T (p.tree.here n))) k

  -- the verdict for members is computed
  module _ (A : ℕ → Bool) (kr : p.tree.kind 0 ≡ all_of) where
    pub judged_is : (v : Verdict) → MembersJudged p A F v ↔ (verdict (members_of p A) F ≡ v)
    judged_is v = (
      λ j. (exact v).1 ((members_judged p w A).0 j),
      λ e. (members_judged p w A).1 ((exact v).0 e),
    )
      where
        exact : (v : Verdict) → (verdict (members_of p A) F ≡ v) ↔ Judged (members_of p A) F v
        exact v = verdict_exact (members_of p A) (members_well_formed p w A kr) F v

    -- and there is one
    pub judged_only : {v : Verdict} → MembersJudged p A F v → (u : Verdict) → MembersJudged p A F u ↔ (u ≡ v)
    judged_only {v} j u = (λ i. sym ((judged_is u).0 i) ∙ (judged_is v).0 j, λ e. rw e j)

  -- one call
  module _ (A : ℕ → Bool) (c : MemberCall) where
    abbrev result : ℕ → ℕ ⊎ Verdict
    result r = refused_or r (verdict (members_of p (changed A c)) F)

    -- the tests tell which refusal applies first
    settled : (a b d : Bool) → Reflects a (¬ Node p c.node) → Reflects b (Refused31 p c.node)
        → Reflects d (A c.node ≡ c.joins)
        → MemberAnswered p F A c (result (refusing a b d)) (kept_or (refusing a b d) A (changed A c))
    settled true b d ra rb rd = refused_17 (ra.to tt)
    settled false true d ra rb rd = refused_31 (is_node c.node ra.from) (rb.to tt)
    settled false false true ra rb rd = refused_32 (is_node c.node ra.from) rb.from (rd.to tt)
    settled false false false ra rb rd = changes (is_node c.node ra.from) rb.from rd.from
        ((judged_is (changed A c) (all_of_root rb.from) _).1 refl)

    -- there is one answer only
    pub member_only : {r s : ℕ ⊎ Verdict} {B C : ℕ → Bool} → MemberAnswered p F A c r B → MemberAnswered p F A c s C
        → (r ≡ s) × (B ≡ C)
    member_only (refused_17 k) (refused_17 l) = (refl, refl)
    member_only (refused_17 k) (refused_31 l x) = absurd (k l)
    member_only (refused_17 k) (refused_32 l x e) = absurd (k l)
    member_only (refused_17 k) (changes l x e j) = absurd (k l)
    member_only (refused_31 n x) (refused_17 l) = absurd (l n)
    member_only (refused_31 n x) (refused_31 l y) = (refl, refl)
    member_only (refused_31 n x) (refused_32 l y e) = absurd (y x)
    member_only (refused_31 n x) (changes l y e j) = absurd (y x)
    member_only (refused_32 n x e) (refused_17 l) = absurd (l n)
    member_only (refused_32 n x e) (refused_31 l y) = absurd (x y)
    member_only (refused_32 n x e) (refused_32 l y d) = (refl, refl)
    member_only (refused_32 n x e) (changes l y d j) = absurd (d e)
    member_only (changes n x e j) (refused_17 l) = absurd (l n)
    member_only (changes n x e j) (refused_31 l y) = absurd (x y)
    member_only (changes n x e j) (refused_32 l y d) = absurd (e d)
    member_only (changes {v = v} n x e j) (changes l y d k) =
        (ap inr ((judged_only (changed A c) (all_of_root x) k v).0 j), refl)

    pub member_answered : MemberAnswered p F A c (member_answer p F A c) (members_after p A c)
    unfolding member_answer members_after member_refusal
    member_answered = settled _ _ _ (r_negate _ (r_T _)) (r_31 _) (r_same _ _)

    -- an accepted call is one of a child of an all_of root
    pub of_a_child : member_refusal p A c ≡ 0 → ¬ Refused31 p c.node
    unfolding member_refusal
    of_a_child e x = at (negate (p.tree.here c.node)) (refused31_b p c.node) (same_b (A c.node) c.joins) e
        ((r_31 c.node).from x)
      where
        at : (a b d : Bool) → refusing a b d ≡ 0 → ¬ T b
        at true b d q t = omega (arith, q)
        at false true d q t = omega (arith, q)
        at false false d q t = absurd t

  -- and over lists
  pub members_worked : (A : ℕ → Bool) (cs : List MemberCall)
      → MembersWorked p F A cs (member_answers p F A cs) (members_after_all p A cs)
  unfolding member_answers members_after_all
  members_worked A [] = no_calls
  members_worked A (c ∷ cs) = next_call (member_answered A c) (members_worked (members_after p A c) cs)

  pub worked_only : {A Y Z : ℕ → Bool} {cs : List MemberCall} {rs qs : List (ℕ ⊎ Verdict)} → MembersWorked p F A cs rs Y
      → MembersWorked p F A cs qs Z → (rs ≡ qs) × (Y ≡ Z)
  worked_only no_calls no_calls = (refl, refl)
  worked_only {A} (next_call {c = c} x y) (next_call z u) =
      let (e, d) = member_only A c x z in let (f, g) = worked_only y (rw (← d) at u) in (rw (e, f), g)

-- the numbers are 17 to 32
module _ (p : Plan) (A : ℕ → Bool) (c : MemberCall) where
  tested : (P : ℕ → Type 0) → ((a b d : Bool) → P (refusing a b d)) → P (member_refusal p A c)
  unfolding member_refusal
  tested P h = h (negate (p.tree.here c.node)) (refused31_b p c.node) (same_b (A c.node) c.joins)

  pub number_least : (member_refusal p A c ≡ 0) ⊎ (17 ≤ member_refusal p A c)
  number_least = tested (λ r. (r ≡ 0) ⊎ (17 ≤ r)) at
    where
      at : (a b d : Bool) → (refusing a b d ≡ 0) ⊎ (17 ≤ refusing a b d)
      at true b d = inr (omega arith)
      at false true d = inr (omega arith)
      at false false true = inr (omega arith)
      at false false false = inl refl

  pub number_limit : member_refusal p A c ≤ 32
  number_limit = tested (λ r. r ≤ 32) (λ a b d. cond_limit 32 a 17 (cond b 31 (cond d 32 0)) (omega arith)
      (cond_limit 32 b 31 (cond d 32 0) (omega arith) (cond_limit 32 d 32 0 (omega arith) (omega arith))))
