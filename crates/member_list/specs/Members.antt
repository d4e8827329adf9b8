-- The list of members as bytes (02: who is aboard): which nodes are members, and which lists are refused. Definitions
-- only.
use Rattle.std.specs.Prelude.{◌≡◌, ◌≢◌, Bool, ◌&&◌, List, ℕ, ◌<◌, ◌≤◌, eqb, ltb, length, get_or}
use Rattle.plan_format.specs.Format.{node_count}
use Rattle.plan_rules.specs.Rules.{refusal}
use Rattle.plan_check.specs.Meaning.{plan_of}
use Rattle.runs.specs.Plan.{Child}

-- "1 for aboard": a node of the plan whose byte is 1
unfoldable pub member_in : List ℕ → List ℕ → ℕ → Bool
member_in b ms x = ltb x (node_count b) && eqb (get_or ms x 0) 1

-- 16: "any other byte or a 1 at a node that is no child of the root", among the N bytes
pub data BadMembers (b ms : List ℕ) : Type 0 where
  other_byte : (i : ℕ) → i < node_count b → get_or ms i 0 ≢ 0 → get_or ms i 0 ≢ 1 → BadMembers b ms
  stray_one : (i : ℕ) → i < node_count b → get_or ms i 0 ≡ 1 → ¬ Child (plan_of b) 0 i → BadMembers b ms

-- none of 1 to 14, 15 ("a shorter one" than N bytes) and 16 applies
pub record MembersPass (b ms : List ℕ) : Type 0 where
  pub accepted : refusal b ≡ 0
  pub room : node_count b ≤ length ms
  pub well_formed : ¬ BadMembers b ms
