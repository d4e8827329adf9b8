-- Members (02: the children of an all_of root that are aboard, 111): the plan of the members, and what is answered as
-- they come and go. Definitions only.
use Rattle.std.specs.Prelude.{◌≡◌, ◌≢◌, ◌⊎◌, ◌↔◌, Bool, true, false, cond, List, [], ◌∷◌, ℕ, T, eqb}
use Rattle.std.proofs.Common.{inl, inr}
use Rattle.std.proofs.Math.Option.{Option, some}
use Rattle.runs.specs.Plan.{all_of, Plan, Node, Child, Under}
use Rattle.runs.specs.Verdict.{Verdict, Judged}

-- A tells which nodes are members
module _ (p : Plan) (A : ℕ → Bool) where
  -- a node that is in no subtree of "the others" (02)
  pub record Remains (i : ℕ) : Type 0 where
    pub node : Node p i
    pub outside : (c : ℕ) → Child p 0 c → ¬ T (A c) → ¬ Under p c i

  -- q is the plan "with the others' subtrees and every order naming them absent" (02)
  pub record OfMembers (q : Plan) : Type 0 where
    pub size : q.tree.size ≡ p.tree.size
    pub kinds : q.tree.kind ≡ p.tree.kind
    pub parents : q.tree.parent ≡ p.tree.parent
    pub conditions : q.conditions ≡ p.conditions
    pub nodes : (i : ℕ) → Node q i ↔ Remains i
    pub orders : (i j : ℕ) → T (q.order i j) ↔ (T (p.order i j) × (Remains i × Remains j))

  -- "the answer worked out afresh" (02): the verdict on that plan, the flags being F at the start
  pub record MembersJudged (F : ℕ → Bool) (v : Verdict) : Type 0 where
    pub plan : Plan
    pub members : OfMembers plan
    pub judged : Judged plan F v

-- 02's "nobody aboard"
abbrev pub nobody : ℕ → Bool
nobody x = false

-- 02's calls "to bring one aboard and take one off", of any number: the node, and whether it is a member afterwards
pub record MemberCall : Type 0 where
  pub node : ℕ
  pub joins : Bool

abbrev pub include : ℕ → MemberCall
include n = record { node = n; joins = true }

abbrev pub exclude : ℕ → MemberCall
exclude n = record { node = n; joins = false }

-- the members after an accepted call
unfoldable pub changed : (ℕ → Bool) → MemberCall → ℕ → Bool
changed A c x = cond (eqb x c.node) c.joins (A x)

module _ (p : Plan) where
  -- 31: "the root is not all_of or the node is not its child"
  pub data Refused31 (n : ℕ) : Type 0 where
    other_root : p.tree.kind 0 ≢ all_of → Refused31 n
    no_child : ¬ Child p 0 n → Refused31 n

  -- One call with the members A: the first of 17, "which here means no node", 31, and 32, "the child is already aboard,
  -- or already off", and nothing changes; or the verdict for the members after it.
  pub data MemberAnswered (F A : ℕ → Bool) (c : MemberCall) : ℕ ⊎ Verdict → (ℕ → Bool) → Type 0 where
    refused_17 : ¬ Node p c.node → MemberAnswered F A c (inl 17) A
    refused_31 : Node p c.node → Refused31 c.node → MemberAnswered F A c (inl 31) A
    refused_32 : Node p c.node → ¬ Refused31 c.node → A c.node ≡ c.joins → MemberAnswered F A c (inl 32) A
    changes : {v : Verdict} → Node p c.node → ¬ Refused31 c.node → A c.node ≢ c.joins
        → MembersJudged p (changed A c) F v → MemberAnswered F A c (inr v) (changed A c)

  -- a list of calls, the first call first: what each answers, and the members after all
  pub data MembersWorked (F : ℕ → Bool) : (ℕ → Bool) → List MemberCall → List (ℕ ⊎ Verdict) → (ℕ → Bool) → Type 0 where
    no_calls : {A : ℕ → Bool} → MembersWorked F A [] [] A
    next_call : {A B Z : ℕ → Bool} {c : MemberCall} {cs : List MemberCall} {r : ℕ ⊎ Verdict} {rs : List (ℕ ⊎ Verdict)}
        → MemberAnswered F A c r B → MembersWorked F B cs rs Z → MembersWorked F A (c ∷ cs) (r ∷ rs) Z

-- "the answer that the last accepted call returned" (02); o is that of the calls before
unfoldable pub last_verdict : Option Verdict → List (ℕ ⊎ Verdict) → Option Verdict
last_verdict o [] = o
last_verdict o (inl n ∷ rs) = last_verdict o rs
last_verdict o (inr v ∷ rs) = last_verdict (some v) rs
