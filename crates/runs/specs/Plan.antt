-- Plans: a tree of tasks, all_of, any_of and optional groups; conditions of the tasks; orders among the children of a
-- group. Definitions only.
use Rattle.std.specs.Prelude.{◌≡◌, ◌≢◌, Bool, true, false, ℕ, ◌<◌, T}
use Rattle.std.proofs.Math.Option.{Option}

pub data Kind : Type 0 where
  -- optional: 02's perhaps group, "as any_of with one more branch that has no tasks"
  task all_of any_of optional : Kind
  deriving Discrete as Kind-discrete

-- the groups of which one branch is taken
abbrev pub Picks : Kind → Type 0
Picks task = ⊥
Picks all_of = ⊥
Picks any_of = Unit {0}
Picks optional = Unit {0}

-- the nodes that events move: a task by its start and its finish, an optional group by its skip
abbrev pub Moves : Kind → Type 0
Moves task = Unit {0}
Moves all_of = ⊥
Moves any_of = ⊥
Moves optional = Unit {0}

-- pre-, in- and postcondition: 01's need, hold and leaving
pub data Place : Type 0 where
  pre inc post : Place
  deriving Discrete as Place-discrete

-- 01's numbers of places and signs (0 clear, 1 set)
abbrev pub place_number : Place → ℕ
place_number pre = 0
place_number inc = 1
place_number post = 2

abbrev pub sign_number : Bool → ℕ
sign_number false = 0
sign_number true = 1

pub record Tree : Type 0 where
  pub size : ℕ
  -- the nodes; all are below size
  pub here : ℕ → Bool
  pub kind : ℕ → Kind
  pub parent : ℕ → ℕ

pub record Conditions : Type 0 where
  pub flags : ℕ
  -- place, task, flag: the sign of the task's condition there, if it has one
  pub sign : Place → ℕ → ℕ → Option Bool

-- The meaning of 01's book, but for names, minutes and start flags. Its three parts are apart: what rests on one of
-- them is the same for all plans that share it.
pub record Plan : Type 0 where
  pub tree : Tree
  pub conditions : Conditions
  -- earlier, later
  pub order : ℕ → ℕ → Bool

-- c is a child of g
pub record ChildOf (t : Tree) (g c : ℕ) : Type 0 where
  pub not_root : 0 < c
  pub node : T (t.here c)
  pub up : t.parent c ≡ g

-- n is under a: it is a, or its parent is under a
pub data UnderOf (t : Tree) (a : ℕ) : ℕ → Type 0 where
  itself : UnderOf t a a
  below : {n : ℕ} → 0 < n → T (t.here n) → UnderOf t a (t.parent n) → UnderOf t a n

module _ (p : Plan) where
  abbrev pub Node : ℕ → Type 0
  Node n = T (p.tree.here n)

  abbrev pub Child : ℕ → ℕ → Type 0
  Child g c = ChildOf p.tree g c

  abbrev pub Under : ℕ → ℕ → Type 0
  Under a n = UnderOf p.tree a n

  -- 01's "before", which follows chains of orders
  pub data Before : ℕ → ℕ → Type 0 where
    direct : {a b : ℕ} → T (p.order a b) → Before a b
    chain : {a b c : ℕ} → T (p.order a b) → Before b c → Before a c

  -- 01's "unordered"
  pub record Unordered (a b : ℕ) : Type 0 where
    pub distinct : a ≢ b
    pub not_before : ¬ Before a b
    pub not_after : ¬ Before b a

  -- t and u stand under unordered children of one all_of group, which is n or below n: 02's "unordered children of the
  -- group have tasks", "at an all_of group and every node above it"
  pub data Concurrent (t u : ℕ) : ℕ → Type 0 where
    at_group : {n : ℕ} → p.tree.kind n ≡ all_of → (c d : ℕ) → Child n c → Child n d → Unordered c d → Under c t
        → Under d u → Concurrent t u n
    deeper : {n : ℕ} (c : ℕ) → Child n c → Concurrent t u c → Concurrent t u n
