-- The marks of a node of what is left of a plan, as words. Definitions only.
use Rattle.std.specs.Prelude.{◌≡◌, Bool, true, false, List, ℕ}
use Rattle.runs.specs.Plan.{Node}
use Rattle.runs.specs.WellFormed.{WellFormed}
use Rattle.runs.specs.Branches.{Blocks}
use Rattle.runs.specs.Model.Blocked.{without}
use Rattle.plan_check.specs.Meaning.{plan_of}
use Rattle.plan_blocked.specs.Inner.{Standing}
use Rattle.plan_format.specs.Format.{node_count}
use Rattle.marks_words.specs.Words.{MarkWords}
use Rattle.table_children.specs.Children.{TreeIn, plan_with}

-- with all orders of the plan: of any blocked nodes S, if a table marks the nodes that stand
abbrev pub LeftWords : List ℕ → List ℕ → ℕ → List ℕ → Type 0
LeftWords b standing n words = (S : ℕ → Bool) → Blocks (plan_of b) S → Standing b S standing
    → Node (without (plan_of b) S) n → MarkWords (without (plan_of b) S) n words

-- with the orders between nodes that stand: of any nodes S without which the plan is well formed, if a table marks the
-- nodes that stand
abbrev pub AmongWords : List ℕ → List ℕ → ℕ → List ℕ → Type 0
AmongWords b standing n words = (S : ℕ → Bool) → WellFormed (without (plan_of b) S) → Standing b S standing
    → Node (without (plan_of b) S) n → MarkWords (without (plan_of b) S) n words

-- by the orders that are put in, with the table of the children that stand
pub record WordsAndTree (b standing : List ℕ) (among : Bool) (from kids : List ℕ) (n : ℕ) (words : List ℕ) : Type 0
  where
    pub all_orders : among ≡ false → LeftWords b standing n words
    pub among_orders : among ≡ true → AmongWords b standing n words
    pub children : TreeIn (plan_with b standing) (node_count b) from kids
