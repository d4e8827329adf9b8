-- The fields of a merged plan, and what a call that merges two plans answers and leaves, computed. Definitions only.
use Rattle.std.specs.Prelude.{◌⊎◌, Bool, not, cond, ◌||◌, List, ℕ, ◌+◌, min, eqb, ltb, length, get_or}
use Rattle.std.specs.Bool.{beq}
use Rattle.base.specs.Answers.{first, overlay, refused_or}
use Rattle.runs.specs.Searches.{any_below}
use Rattle.plan_format.specs.Format.{node_count, flag_count, start_flag}
use Rattle.plan_rules.specs.Rules.{refusal}
use Rattle.plan_layout.specs.declared.Sizes.{Sizes}
use Rattle.plan_layout.specs.Layout.{plan_length}
use Rattle.plan_layout.specs.Fields.{Fields, byte_at}
use Rattle.plan_parts.specs.Read.{sizes_of, fields_of}
use Rattle.plan_parts.specs.Joined.{joined_sizes, joined_fields, shifted_fields}
use Rattle.plan_merge.specs.Sentences.{hull_name}

-- the new root alone: one all-of node, no flags
abbrev pub root_sizes : Sizes
root_sizes = record { nodes = 1; conditions = 0; orders = 0; flags = 0 }

abbrev pub root_fields : Fields
root_fields = record {
  sizes = root_sizes;
  start = λ k. 0;
  name = λ k. get_or hull_name k 0;
  parent = λ n. 255;
  kind = λ n. 1;
  minutes = λ n. 0;
  task = λ i. 0;
  value = λ i. 0;
  earlier = λ j. 0;
  later = λ j. 0;
}

module _ (b c : List ℕ) where
  abbrev pub merged_sizes : Sizes
  merged_sizes = joined_sizes root_sizes (joined_sizes (sizes_of b) (sizes_of c))

  abbrev pub merged_fields : Fields
  merged_fields = joined_fields root_fields
      (joined_fields (shifted_fields 1 (fields_of b)) (shifted_fields (1 + node_count b) (fields_of c)))

  -- 33: a size passes its limit
  unfoldable pub refused33 : Bool
  refused33 = (ltb 128 merged_sizes.nodes || ltb 1024 merged_sizes.conditions) || ltb 512 merged_sizes.orders

  -- 34: a flag of both starts differently
  unfoldable pub refused34 : Bool
  refused34 = any_below (min (flag_count b) (flag_count c)) (λ f. not (beq (start_flag b f) (start_flag c f)))

module _ (b c out : List ℕ) where
  -- of two plans that pass; 15: under the merged plan's length
  unfoldable pub pair_refusal : ℕ
  pair_refusal = cond (refused33 b c) 33
      (cond (refused34 b c) 34 (cond (ltb (length out) (plan_length (merged_sizes b c))) 15 0))

  unfoldable pub merge_refusal : ℕ
  merge_refusal = first (refusal b) (first (refusal c) pair_refusal)

  unfoldable pub merge_answer : ℕ ⊎ ℕ
  merge_answer = refused_or merge_refusal (plan_length (merged_sizes b c))

  -- memory with the plan from the first byte, and then what was there
  abbrev pub with_merged : List ℕ
  with_merged = overlay (byte_at (merged_fields b c)) (plan_length (merged_sizes b c)) out

  -- the bytes after the call
  unfoldable pub merge_left : List ℕ
  merge_left = cond (eqb merge_refusal 0) with_merged out
