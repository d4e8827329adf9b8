-- After a list of calls the last verdict is that of the members; with nobody aboard it is CLEAR, with everybody the
-- plan's own.
use Rattle.runs.proofs.Base.{◌≡◌, refl, ◌⊎◌, Bool, true, false, Option, none, some, List, [], ◌∷◌, inl, inr, ℕ, T}
use Rattle.runs.proofs.Base.{eqb, cond}
use Rattle.runs.specs.Plan.{all_of, Plan, Child}
use Rattle.runs.specs.WellFormed.{WellFormed}
use Rattle.runs.specs.Verdict.{Verdict, CLEAR, Judged}
use Rattle.members.specs.Members.{MembersJudged, nobody, MemberCall, changed, refused_17, refused_31, refused_32}
use Rattle.members.specs.Members.{changes, MemberAnswered, MembersWorked, no_calls, next_call, last_verdict}
use Rattle.runs.proofs.Reflect.{clash, Reflects, r_eq}
use Rattle.members.proofs.Parts.{members_judged, everybody, nobody_clear}
use Rattle.members.proofs.Answers.{all_of_root, called_child, judged_only}

module _ (p : Plan) (w : WellFormed p) (F : ℕ → Bool) where
  -- what holds of the last verdict and the members all along
  pub record Along (o : Option Verdict) (A : ℕ → Bool) : Type 0 where
    pub children : (c : ℕ) → T (A c) → Child p 0 c
    pub none_yet : o ≡ none → A ≡ nobody
    pub judged : (v : Verdict) → o ≡ some v → (p.tree.kind 0 ≡ all_of) × MembersJudged p A F v

  pub at_first : Along none nobody
  at_first = record { children = λ c x. absurd x; none_yet = λ e. refl; judged = λ v e. clash cc }

  changed_child : (A : ℕ → Bool) (c : MemberCall) → Child p 0 c.node → ((x : ℕ) → T (A x) → Child p 0 x) → (x : ℕ)
      → T (changed A c x) → Child p 0 x
  unfolding changed
  changed_child A c hc k x = at (eqb x c.node) (r_eq x c.node)
    where
      at : (b : Bool) → Reflects b (x ≡ c.node) → T (cond b c.joins (A x)) → Child p 0 x
      at true r t = rw (r.to tt) hc
      at false r t = k x t

  -- one call more
  along_call : {o : Option Verdict} {A : ℕ → Bool} {c : MemberCall} {r : ℕ ⊎ Verdict} {B : ℕ → Bool} → Along o A
      → MemberAnswered p F A c r B → Along (last_verdict o (r ∷ [])) B
  unfolding last_verdict
  along_call k (refused_17 n) = k
  along_call k (refused_31 l x) = k
  along_call k (refused_32 l x s) = k
  along_call {A = A} {c = c} k (changes {v = v} l x s j) = record {
    children = changed_child A c (called_child p w F x) k.children;
    none_yet = λ e. clash cc;
    judged = λ u e. let q : v ≡ u = cc in (all_of_root p w F x, rw q at j);
  }

  last_more : (o : Option Verdict) (r : ℕ ⊎ Verdict) (rs : List (ℕ ⊎ Verdict))
      → last_verdict o (r ∷ rs) ≡ last_verdict (last_verdict o (r ∷ [])) rs
  unfolding last_verdict
  last_more o (inl n) rs = refl
  last_more o (inr v) rs = refl

  pub along_after : {o : Option Verdict} {A Z : ℕ → Bool} {cs : List MemberCall} {rs : List (ℕ ⊎ Verdict)} → Along o A
      → MembersWorked p F A cs rs Z → Along (last_verdict o rs) Z
  unfolding last_verdict
  along_after k no_calls = k
  along_after {o = o} k (next_call {r = r} {rs = rs} x y) = rw (last_more o r rs) (along_after (along_call k x) y)

  module _ {o : Option Verdict} {A : ℕ → Bool} (k : Along o A) (v : Verdict) (e : o ≡ some v) where
    pub last_clear : ((c : ℕ) → ¬ T (A c)) → v ≡ CLEAR
    last_clear n = let (kr, j) = k.judged v e in
        (judged_only p w F A kr ((members_judged p w A).1 (nobody_clear p w A kr n F)) v).0 j

    pub last_whole : ((c : ℕ) → Child p 0 c → T (A c)) → Judged p F v
    last_whole all = rw (everybody p w A all) at ((members_judged p w A).0 (k.judged v e).1)
