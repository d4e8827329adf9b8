-- The causes 1 to 14 for which a plan (01: book) is refused, each a test of the bytes alone, and the first that
-- applies.
use Rattle.std.specs.Prelude.{ℕ, ◌+◌, ◌-◌, ◌*◌, Bool, cond, not, ◌&&◌, ◌||◌, List, length, eqb, ltb, leb}
use Rattle.plan_codes.specs.Names.{name_allowed}
use Rattle.plan_codes.specs.Values.{flag_of, sign_of, place_of, value_bad}
use Rattle.plan_format.specs.Format.{node_count, cond_count, order_count, flag_count, whole_length, start_flag}
use Rattle.plan_format.specs.Format.{name_char}
use Rattle.plan_format.specs.Format.{parent_of, kind_of, minutes_of, cond_node, cond_value, earlier_of, later_of}
use Rattle.plan_format.specs.Format.{is_kind}
use Rattle.plan_format.specs.Format.{is_group}
use Rattle.runs.specs.Searches.{any_below}

-- under 16 bytes
unfoldable pub cause1 : List ℕ → Bool
cause1 b = ltb (length b) 16

-- a size beyond its limits
unfoldable pub cause2 : List ℕ → Bool
cause2 b = ((ltb (node_count b) 1 || ltb 128 (node_count b)) || (ltb 1024 (cond_count b) || ltb 512 (order_count b))) ||
    (ltb (flag_count b) 1 || ltb 64 (flag_count b))

-- wrong length
unfoldable pub cause3 : List ℕ → Bool
cause3 b = not (eqb (length b) (whole_length b))

-- start bit of a flag V or higher
unfoldable pub bad_start : List ℕ → ℕ → Bool
bad_start b f = leb (flag_count b) f && start_flag b f

unfoldable pub cause4 : List ℕ → Bool
cause4 b = any_below 64 (bad_start b)

-- name character not allowed
unfoldable pub bad_char : List ℕ → ℕ → Bool
bad_char b k = not (name_allowed (name_char b k))

unfoldable pub cause5 : List ℕ → Bool
cause5 b = any_below (4 * node_count b) (bad_char b)

-- kind over 3 (01: over 2; 02 lets kind 3 pass); group with minutes; task over 10,080 minutes
unfoldable pub bad_entry : List ℕ → ℕ → Bool
bad_entry b n = (ltb 3 (kind_of b n) || (is_group b n && ltb 0 (minutes_of b n))) ||
    (is_kind b n 0 && ltb 10080 (minutes_of b n))

unfoldable pub cause6 : List ℕ → Bool
cause6 b = any_below (node_count b) (bad_entry b)

-- root's parent not 255; another's parent not a lower-numbered group
unfoldable pub bad_parent : List ℕ → ℕ → Bool
bad_parent b n = cond (eqb n 0) (not (eqb (parent_of b n) 255))
    (not (ltb (parent_of b n) n && is_group b (parent_of b n)))

unfoldable pub cause7 : List ℕ → Bool
cause7 b = any_below (node_count b) (bad_parent b)

-- group without child: a group that is no node's parent
unfoldable pub childless : List ℕ → ℕ → Bool
childless b g = is_group b g && not (any_below (node_count b) (λ n. eqb (parent_of b n) g))

unfoldable pub cause8 : List ℕ → Bool
cause8 b = any_below (node_count b) (childless b)

-- condition on no task of the plan; value over 383; flag V or higher
unfoldable pub bad_condition : List ℕ → ℕ → Bool
bad_condition b i = not (is_kind b (cond_node b i) 0) || value_bad (cond_value b i) (flag_count b)

unfoldable pub cause9 : List ℕ → Bool
cause9 b = any_below (cond_count b) (bad_condition b)

-- a pair is not below the next one: not a lower first part, nor the same with a lower second part
unfoldable pub not_below : ℕ → ℕ → ℕ → ℕ → Bool
not_below x y x' y' = not (ltb x x' || (eqb x x' && ltb y y'))

-- pair i of two sequences is not below pair i + 1
unfoldable pub not_rising : (ℕ → ℕ) → (ℕ → ℕ) → ℕ → Bool
not_rising x y i = not_below (x i) (y i) (x (i + 1)) (y (i + 1))

-- (node, value) pairs not strictly rising
unfoldable pub cause10 : List ℕ → Bool
cause10 b = any_below (cond_count b - 1) (not_rising (cond_node b) (cond_value b))

-- one task, place and flag with both signs: i clear and j set
unfoldable pub both_signs : List ℕ → ℕ → ℕ → Bool
both_signs b i j =
    (eqb (cond_node b j) (cond_node b i) && eqb (place_of (cond_value b j)) (place_of (cond_value b i)) && eqb
    (flag_of (cond_value b j)) (flag_of (cond_value b i)))
    && (eqb (sign_of (cond_value b i)) 0 && eqb (sign_of (cond_value b j)) 1)

unfoldable pub cause11 : List ℕ → Bool
cause11 b = any_below (cond_count b) (λ i. any_below (cond_count b) (both_signs b i))

-- j is a postcondition (01: leaving) of the task of i on its flag
unfoldable pub post_of : List ℕ → ℕ → ℕ → Bool
post_of b i j = eqb (cond_node b j) (cond_node b i) && eqb (flag_of (cond_value b j)) (flag_of (cond_value b i)) && eqb
    (place_of (cond_value b j)) 2

-- incondition (01: hold) on a flag that the same task has no postcondition on
unfoldable pub no_post : List ℕ → ℕ → Bool
no_post b i = eqb (place_of (cond_value b i)) 1 && not (any_below (cond_count b) (post_of b i))

unfoldable pub cause12 : List ℕ → Bool
cause12 b = any_below (cond_count b) (no_post b)

-- n is a child of g
unfoldable pub is_child : List ℕ → ℕ → ℕ → Bool
is_child b g n = ltb 0 n && ltb n (node_count b) && eqb (parent_of b n) g

-- order whose nodes are not children of one all-of group, or whose earlier number is not the lower; the group can only
-- be the parent of the earlier node
unfoldable pub bad_pair : List ℕ → ℕ → ℕ → Bool
bad_pair b x y = not (is_kind b (parent_of b x) 1 && is_child b (parent_of b x) x && is_child b (parent_of b x) y)
    || not
    (ltb x y)

unfoldable pub bad_order : List ℕ → ℕ → Bool
bad_order b j = bad_pair b (earlier_of b j) (later_of b j)

unfoldable pub cause13 : List ℕ → Bool
cause13 b = any_below (order_count b) (bad_order b)

-- (earlier, later) pairs not strictly rising
unfoldable pub cause14 : List ℕ → Bool
cause14 b = any_below (order_count b - 1) (not_rising (earlier_of b) (later_of b))

-- the first cause that applies, or 0
unfoldable pub refusal : List ℕ → ℕ
refusal b =
    cond (cause1 b) 1
    (cond (cause2 b) 2
    (cond (cause3 b) 3
    (cond (cause4 b) 4
    (cond (cause5 b) 5
    (cond (cause6 b) 6
    (cond (cause7 b) 7
    (cond (cause8 b) 8
    (cond (cause9 b) 9
    (cond (cause10 b) 10
    (cond (cause11 b) 11
    (cond (cause12 b) 12
    (cond (cause13 b) 13
    (cond (cause14 b) 14 0)))))))))))))
