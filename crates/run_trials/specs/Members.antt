-- Trial plans for 02's members (111), lists of them as bytes, calls that include and exclude, and what these answer and
-- leave. Definitions only.
use Rattle.std.specs.Prelude.{ℕ, ◌≡◌, ◌⊎◌, List, [], ◌∷◌}
use Rattle.std.proofs.Common.{inl, inr}
use Rattle.runs.specs.Plan.{all_of, any_of, optional}
use Rattle.runs.specs.Verdict.{Verdict, CLEAR, DOOMED, OPEN}
use Rattle.members.specs.Members.{MemberCall, include, exclude}
use Rattle.claims.specs.Members.{MemberCalls}
use Rattle.run_trials.specs.Written.{then, PlanPieces, bytes_of}
use Rattle.run_trials.specs.Terms.{short, off, on, needs, leaves, group, work, none_set, one_set, under_root}
use Rattle.run_trials.specs.Terms.{a_task, z_task, A, C, G, Z}
use Rattle.run_trials.specs.Starred.{B, in_order, cast, coms, three, twins}
use Rattle.run_trials.specs.Sequences.{rooted, bare}

-- a plan, the bytes of the list, calls one after another, what they answer, and the bytes after them
pub record MemberRow : Type 0 where
  pub plan : PlanPieces
  pub members : List ℕ
  pub calls : List MemberCall
  pub answers : List (ℕ ⊎ Verdict)
  pub left : List ℕ

abbrev pub RowCalled : MemberRow → Type 0
RowCalled w = (rs : List (ℕ ⊎ Verdict)) (zs : List ℕ)
    → MemberCalls (bytes_of w.plan) w.members w.calls rs zs → (rs ≡ w.answers) × (zs ≡ w.left)

abbrev pub AllCalled : List MemberRow → Type 0
AllCalled [] = Unit {0}
AllCalled (w ∷ l) = RowCalled w × AllCalled l

-- ---- the rows
abbrev row : PlanPieces → List ℕ → List MemberCall → List (ℕ ⊎ Verdict) → List ℕ → MemberRow
row w ms cs rs zs = record { plan = w; members = ms; calls = cs; answers = rs; left = zs }

-- one call is refused, and nothing is written
abbrev refuses : PlanPieces → List ℕ → MemberCall → ℕ → MemberRow
refuses w ms c n = row w ms (c ∷ []) (inl n ∷ []) ms

-- 01's three tasks in a chain: A leaves flag 0 set, C leaves it clear, Z needs it clear
abbrev chain : PlanPieces
chain = three (then 1 2 ∷ then 2 3 ∷ [])

-- the same chain inside one child, G; beside it another that leaves the flag set
abbrev inner : PlanPieces
inner = under_root (group all_of 0 (short G) ∷ work 1 (short A) 2 (leaves 0 on ∷ []) ∷ work 1 (short C) 3
    (leaves 0 off ∷ []) ∷ work 1 (short Z) 5 (needs 0 off ∷ []) ∷ a_task (leaves 0 on ∷ []) ∷ [])
    (then 2 3 ∷ then 3 4 ∷ [])

abbrev pub of_member_calls : List MemberRow
of_member_calls =
    -- without C, A and Z are unordered: OPEN, not DOOMED; all: CLEAR, the plan's own; refused calls among them change
    -- nothing; nobody: CLEAR. Bytes after N are not looked at, and stay
    row chain (0 ∷ 0 ∷ 0 ∷ 0 ∷ 7 ∷ 1 ∷ [])
    (include 1 ∷ include 3 ∷ include 2 ∷ include 2 ∷ exclude 2 ∷ exclude 2 ∷ include 4 ∷ exclude 0 ∷ include 257 ∷ [])
    (inr CLEAR ∷ inr OPEN ∷ inr CLEAR ∷ inl 32 ∷ inr OPEN ∷ inl 32 ∷ inl 17 ∷ inl 31 ∷ inl 17 ∷ [])
    (0 ∷ 1 ∷ 0 ∷ 1 ∷ 7 ∷ 1 ∷ [])
    ∷ row chain (0 ∷ 1 ∷ 0 ∷ 1 ∷ []) (include 2 ∷ exclude 1 ∷ exclude 2 ∷ exclude 3 ∷ [])
    (inr CLEAR ∷ inr CLEAR ∷ inr CLEAR ∷ inr CLEAR ∷ []) (0 ∷ 0 ∷ 0 ∷ 0 ∷ [])
    -- all: DOOMED, the plan's own; either alone: CLEAR
    ∷ row (twins (then 1 2 ∷ [])) (0 ∷ 0 ∷ 0 ∷ []) (include 1 ∷ include 2 ∷ exclude 1 ∷ [])
    (inr CLEAR ∷ inr DOOMED ∷ inr CLEAR ∷ []) (0 ∷ 0 ∷ 1 ∷ [])
    -- orders inside a member stay; with it goes all that is under it
    ∷ row inner (0 ∷ 0 ∷ 0 ∷ 0 ∷ 0 ∷ 0 ∷ []) (include 1 ∷ include 5 ∷ exclude 1 ∷ [])
    (inr CLEAR ∷ inr OPEN ∷ inr CLEAR ∷ []) (0 ∷ 0 ∷ 0 ∷ 0 ∷ 0 ∷ 1 ∷ [])
    -- opposite leavings (104) come and go with the second
    ∷ row (under_root (a_task (leaves 0 on ∷ []) ∷ z_task (leaves 0 off ∷ []) ∷ []) []) (0 ∷ 0 ∷ 0 ∷ [])
    (include 2 ∷ include 1 ∷ exclude 2 ∷ []) (inr CLEAR ∷ inr OPEN ∷ inr CLEAR ∷ []) (0 ∷ 1 ∷ 0 ∷ [])
    -- flag 0 is set at the start: RADI, of COMS, may need it clear, CAST must; nobody: CLEAR
    ∷ row (B (one_set 0) in_order) (0 ∷ 0 ∷ 0 ∷ 0 ∷ 0 ∷ [])
    (include coms ∷ include cast ∷ exclude coms ∷ exclude cast ∷ [])
    (inr OPEN ∷ inr DOOMED ∷ inr DOOMED ∷ inr CLEAR ∷ []) (0 ∷ 0 ∷ 0 ∷ 0 ∷ 0 ∷ [])
    -- 31: the root; a node deeper down, before 32; other roots, where a 1 at a child passes 16
    ∷ refuses chain (0 ∷ 0 ∷ 0 ∷ 0 ∷ []) (include 0) 31
    ∷ refuses inner (0 ∷ 1 ∷ 0 ∷ 0 ∷ 0 ∷ 0 ∷ []) (exclude 2) 31
    ∷ refuses (rooted any_of (bare ∷ [])) (0 ∷ 1 ∷ []) (include 1) 31
    ∷ refuses (rooted optional (bare ∷ [])) (0 ∷ 1 ∷ []) (exclude 1) 31
    ∷ refuses (record { flags = 1; start = none_set; entries = work 255 (short A) 1 [] ∷ []; orders = [] }) (0 ∷ [])
    (include 0) 31
    -- 16, before 17, 31 and 32: another byte, a 1 at a node deeper down, at the root
    ∷ refuses chain (0 ∷ 0 ∷ 2 ∷ 0 ∷ []) (include 4) 16
    ∷ refuses inner (0 ∷ 1 ∷ 1 ∷ 0 ∷ 0 ∷ 0 ∷ []) (include 2) 16
    ∷ refuses chain (1 ∷ 1 ∷ 0 ∷ 0 ∷ []) (include 1) 16
    -- 15, before 16; 1 to 14 before it
    ∷ refuses chain (0 ∷ 0 ∷ 2 ∷ []) (include 1) 15
    ∷ refuses (rooted any_of (work 0 (short A) 1 (needs 2 off ∷ []) ∷ [])) [] (include 1) 9
    ∷ []
