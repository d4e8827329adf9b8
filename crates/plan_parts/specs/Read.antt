-- The fields of a plan, read from its bytes. Definitions only.
use Rattle.std.specs.Prelude.{List, ℕ, ◌+◌, get_or}
use Rattle.plan_format.specs.Format.{node_count, cond_count, order_count, flag_count, name_char, parent_of, kind_of}
use Rattle.plan_format.specs.Format.{minutes_of}
use Rattle.plan_format.specs.Format.{cond_node, cond_value, earlier_of, later_of}
use Rattle.plan_layout.specs.declared.Sizes.{Sizes}
use Rattle.plan_layout.specs.Fields.{Fields}

module _ (b : List ℕ) where
  abbrev pub sizes_of : Sizes
  sizes_of = record { nodes = node_count b; conditions = cond_count b; orders = order_count b; flags = flag_count b }

  abbrev pub fields_of : Fields
  fields_of = record {
    sizes = sizes_of;
    start = λ k. get_or b (8 + k) 0;
    name = name_char b;
    parent = parent_of b;
    kind = kind_of b;
    minutes = minutes_of b;
    task = cond_node b;
    value = cond_value b;
    earlier = earlier_of b;
    later = later_of b;
  }
