-- Written by tools/worked_plans.
-- The derivations of the worked plans, and of some goals.
use Rattle.std.specs.Prelude.{[], ◌∷◌, Some, None, codes}
use Rattle.star_model.specs.DerivCases as d
use Rattle.star_model.specs.declared.derivations.Deriv.{Deriv}
use Rattle.star_model.specs.declared.derivations.Deriv.TheVariants as derivation
use Rattle.star_model.specs.declared.plans.GlueOp.TheVariants as glue
use Rattle.star_model.specs.declared.rules.Flavour.TheVariants as flavour

abbrev pub alternative_beyond : Deriv
alternative_beyond = (d.Glue [] (d.Goal (record { tables = 1; pushed = 0 }) None (d.Reference (codes "AccessRoot") 2 [] (derivation.Leaf flavour.AccessHeap))))

abbrev pub both_indexes : Deriv
both_indexes = (d.Glue [] (d.Goal (record { tables = 1; pushed = 0 }) None (d.Reference (codes "AccessRoot") 1 [] (d.Reference (codes "Paths") 3 (1 ∷ 2 ∷ []) (d.Unary flavour.Get (d.Binary flavour.Intersect (derivation.Leaf flavour.AccessIndex) (derivation.Leaf flavour.AccessIndex)))))))

abbrev pub both_stored : Deriv
both_stored = (d.Glue [] (d.Goal (record { tables = 3; pushed = 0 }) (Some (1, 2)) (d.Reference (codes "JoinRoot") 1 [] (d.Binary flavour.JoinNl (d.Glue [] (d.Goal (record { tables = 1; pushed = 0 }) None (d.Reference (codes "AccessRoot") 2 [] (d.Unary flavour.Store (derivation.Leaf flavour.AccessHeap))))) (d.Glue [] (d.Goal (record { tables = 2; pushed = 0 }) None (d.Reference (codes "AccessRoot") 2 [] (d.Unary flavour.Store (derivation.Leaf flavour.AccessHeap)))))))))

abbrev pub column_by_get : Deriv
column_by_get = (d.Glue [] (d.Goal (record { tables = 1; pushed = 0 }) None (d.Reference (codes "AccessRoot") 3 (1 ∷ []) (d.Unary flavour.Get (derivation.Leaf flavour.AccessIndex)))))

abbrev pub column_is_missing : Deriv
column_is_missing = (d.Glue [] (d.Goal (record { tables = 1; pushed = 0 }) None (d.Reference (codes "AccessRoot") 2 (1 ∷ []) (derivation.Leaf flavour.AccessIndex))))

abbrev pub dear_once : Deriv
dear_once = (d.Glue [] (d.Goal (record { tables = 3; pushed = 0 }) (Some (2, 1)) (d.Reference (codes "JoinRoot") 1 [] (d.Binary flavour.JoinNl (d.Glue [] (d.Goal (record { tables = 2; pushed = 0 }) None (d.Reference (codes "AccessRoot") 1 [] (derivation.Leaf flavour.AccessHeap)))) (d.Glue [] (d.Goal (record { tables = 1; pushed = 0 }) None (d.Reference (codes "AccessRoot") 2 [] (d.Unary flavour.Store (derivation.Leaf flavour.AccessHeap)))))))))

abbrev pub eight_tables : Deriv
eight_tables = (d.Glue [] (d.Goal (record { tables = 255; pushed = 0 }) (Some (127, 128)) (d.Reference (codes "JoinRoot") 1 [] (d.Binary flavour.JoinNl (d.Glue [] (d.Goal (record { tables = 127; pushed = 0 }) (Some (63, 64)) (d.Reference (codes "JoinRoot") 1 [] (d.Binary flavour.JoinNl (d.Glue [] (d.Goal (record { tables = 63; pushed = 0 }) (Some (31, 32)) (d.Reference (codes "JoinRoot") 1 [] (d.Binary flavour.JoinNl (d.Glue [] (d.Goal (record { tables = 31; pushed = 0 }) (Some (15, 16)) (d.Reference (codes "JoinRoot") 1 [] (d.Binary flavour.JoinNl (d.Glue [] (d.Goal (record { tables = 15; pushed = 0 }) (Some (7, 8)) (d.Reference (codes "JoinRoot") 1 [] (d.Binary flavour.JoinNl (d.Glue [] (d.Goal (record { tables = 7; pushed = 0 }) (Some (3, 4)) (d.Reference (codes "JoinRoot") 1 [] (d.Binary flavour.JoinNl (d.Glue [] (d.Goal (record { tables = 3; pushed = 0 }) (Some (1, 2)) (d.Reference (codes "JoinRoot") 1 [] (d.Binary flavour.JoinNl (d.Glue [] (d.Goal (record { tables = 1; pushed = 0 }) None (d.Reference (codes "AccessRoot") 1 [] (derivation.Leaf flavour.AccessHeap)))) (d.Glue [] (d.Goal (record { tables = 2; pushed = 0 }) None (d.Reference (codes "AccessRoot") 1 [] (derivation.Leaf flavour.AccessHeap)))))))) (d.Glue [] (d.Goal (record { tables = 4; pushed = 0 }) None (d.Reference (codes "AccessRoot") 1 [] (derivation.Leaf flavour.AccessHeap)))))))) (d.Glue [] (d.Goal (record { tables = 8; pushed = 0 }) None (d.Reference (codes "AccessRoot") 1 [] (derivation.Leaf flavour.AccessHeap)))))))) (d.Glue [] (d.Goal (record { tables = 16; pushed = 0 }) None (d.Reference (codes "AccessRoot") 1 [] (derivation.Leaf flavour.AccessHeap)))))))) (d.Glue [] (d.Goal (record { tables = 32; pushed = 0 }) None (d.Reference (codes "AccessRoot") 1 [] (derivation.Leaf flavour.AccessHeap)))))))) (d.Glue [] (d.Goal (record { tables = 64; pushed = 0 }) None (d.Reference (codes "AccessRoot") 1 [] (derivation.Leaf flavour.AccessHeap)))))))) (d.Glue [] (d.Goal (record { tables = 128; pushed = 0 }) None (d.Reference (codes "AccessRoot") 1 [] (derivation.Leaf flavour.AccessHeap))))))))

abbrev pub employees_outside : Deriv
employees_outside = (d.Glue [] (d.Goal (record { tables = 3; pushed = 0 }) (Some (2, 1)) (d.Reference (codes "JoinRoot") 1 [] (d.Binary flavour.JoinNl (d.Glue [] (d.Goal (record { tables = 2; pushed = 0 }) None (d.Reference (codes "AccessRoot") 2 (1 ∷ []) (derivation.Leaf flavour.AccessIndex)))) (d.Glue [] (d.Goal (record { tables = 1; pushed = 1 }) None (d.Reference (codes "AccessRoot") 1 [] (derivation.Leaf flavour.AccessHeap))))))))

abbrev pub employees_outside_not_pushed : Deriv
employees_outside_not_pushed = (d.Glue [] (d.Goal (record { tables = 3; pushed = 0 }) (Some (2, 1)) (d.Reference (codes "JoinRoot") 2 [] (d.Binary flavour.JoinNl (d.Glue [] (d.Goal (record { tables = 2; pushed = 0 }) None (d.Reference (codes "AccessRoot") 2 (1 ∷ []) (derivation.Leaf flavour.AccessIndex)))) (d.Glue [] (d.Goal (record { tables = 1; pushed = 0 }) None (d.Reference (codes "AccessRoot") 1 [] (derivation.Leaf flavour.AccessHeap))))))))

abbrev pub employees_stored : Deriv
employees_stored = (d.Glue [] (d.Goal (record { tables = 3; pushed = 0 }) (Some (1, 2)) (d.Reference (codes "JoinRoot") 1 [] (d.Binary flavour.JoinNl (d.Glue [] (d.Goal (record { tables = 1; pushed = 0 }) None (d.Reference (codes "AccessRoot") 1 [] (derivation.Leaf flavour.AccessHeap)))) (d.Glue [] (d.Goal (record { tables = 2; pushed = 0 }) None (d.Reference (codes "AccessRoot") 2 [] (d.Unary flavour.Store (derivation.Leaf flavour.AccessHeap)))))))))

abbrev pub false_condition : Deriv
false_condition = (d.Glue [] (d.Goal (record { tables = 3; pushed = 0 }) (Some (1, 2)) (d.Reference (codes "JoinRoot") 1 [] (d.Binary flavour.JoinHash (d.Glue [] (d.Goal (record { tables = 1; pushed = 0 }) None (d.Reference (codes "AccessRoot") 1 [] (derivation.Leaf flavour.AccessHeap)))) (d.Glue [] (d.Goal (record { tables = 2; pushed = 0 }) None (d.Reference (codes "AccessRoot") 1 [] (derivation.Leaf flavour.AccessHeap))))))))

abbrev pub filter_for_heap : Deriv
filter_for_heap = (d.Glue [] (d.Goal (record { tables = 1; pushed = 0 }) None (d.Reference (codes "AccessRoot") 1 [] (d.Unary flavour.Filter (d.Unary flavour.Filter (d.Unary flavour.Filter (d.Unary flavour.Filter (derivation.Leaf flavour.AccessHeap))))))))

abbrev pub first_of_two : Deriv
first_of_two = (d.Glue [] (d.Goal (record { tables = 1; pushed = 0 }) None (d.Reference (codes "AccessRoot") 1 [] (derivation.Leaf flavour.AccessHeap))))

abbrev pub five_tables : Deriv
five_tables = (d.Glue (glue.Sort ∷ []) (d.Goal (record { tables = 31; pushed = 0 }) (Some (15, 16)) (d.Reference (codes "JoinRoot") 1 (1 ∷ []) (d.Reference (codes "JoinAt") 2 [] (d.Binary flavour.JoinNl (d.Glue [] (d.Goal (record { tables = 15; pushed = 0 }) (Some (7, 8)) (d.Reference (codes "JoinRoot") 1 (1 ∷ []) (d.Reference (codes "JoinAt") 2 [] (d.Binary flavour.JoinNl (d.Glue [] (d.Goal (record { tables = 7; pushed = 0 }) (Some (3, 4)) (d.Reference (codes "JoinRoot") 1 (1 ∷ []) (d.Reference (codes "JoinAt") 2 [] (d.Binary flavour.JoinNl (d.Glue [] (d.Goal (record { tables = 3; pushed = 0 }) (Some (1, 2)) (d.Reference (codes "JoinRoot") 1 (1 ∷ []) (d.Reference (codes "JoinAt") 2 [] (d.Binary flavour.JoinNl (d.Glue [] (d.Goal (record { tables = 1; pushed = 0 }) None (d.Reference (codes "AccessRoot") 1 [] (derivation.Leaf flavour.AccessHeap)))) (d.Glue (glue.Store ∷ []) (d.Goal (record { tables = 2; pushed = 0 }) None (d.Reference (codes "AccessRoot") 1 [] (derivation.Leaf flavour.AccessHeap))))))))) (d.Glue (glue.Ship ∷ glue.Store ∷ []) (d.Goal (record { tables = 4; pushed = 0 }) None (d.Reference (codes "AccessRoot") 1 [] (derivation.Leaf flavour.AccessHeap))))))))) (d.Glue (glue.Ship ∷ glue.Store ∷ []) (d.Goal (record { tables = 8; pushed = 0 }) None (d.Reference (codes "AccessRoot") 1 [] (derivation.Leaf flavour.AccessHeap))))))))) (d.Glue (glue.Store ∷ []) (d.Goal (record { tables = 16; pushed = 0 }) None (d.Reference (codes "AccessRoot") 1 [] (derivation.Leaf flavour.AccessHeap)))))))))

abbrev pub generated_hash : Deriv
generated_hash = (d.Glue (glue.Sort ∷ []) (d.Goal (record { tables = 3; pushed = 0 }) (Some (2, 1)) (d.Reference (codes "JoinRoot") 1 [] (d.Reference (codes "Both") 2 [] (d.Binary flavour.JoinHash (d.Glue [] (d.Goal (record { tables = 2; pushed = 0 }) None (d.Reference (codes "AccessRoot") 2 (2 ∷ []) (derivation.Leaf flavour.AccessIndex)))) (d.Glue [] (d.Goal (record { tables = 1; pushed = 0 }) None (d.Reference (codes "AccessRoot") 2 (1 ∷ []) (derivation.Leaf flavour.AccessIndex)))))))))

abbrev pub goal_with_more_pushed : Deriv
goal_with_more_pushed = (d.Glue [] (d.Goal (record { tables = 3; pushed = 0 }) (Some (1, 2)) (d.Reference (codes "JoinRoot") 1 [] (d.Binary flavour.JoinNl (d.Glue [] (d.Goal (record { tables = 1; pushed = 0 }) None (d.Reference (codes "AccessRoot") 1 [] (derivation.Leaf flavour.AccessHeap)))) (d.Glue [] (d.Goal (record { tables = 2; pushed = 1 }) None (d.Reference (codes "AccessRoot") 1 [] (derivation.Leaf flavour.AccessHeap))))))))

abbrev pub goal_without_pushed : Deriv
goal_without_pushed = (d.Glue [] (d.Goal (record { tables = 3; pushed = 0 }) (Some (1, 2)) (d.Reference (codes "JoinRoot") 1 [] (d.Binary flavour.JoinNl (d.Glue [] (d.Goal (record { tables = 1; pushed = 0 }) None (d.Reference (codes "AccessRoot") 1 [] (derivation.Leaf flavour.AccessHeap)))) (d.Glue [] (d.Goal (record { tables = 2; pushed = 0 }) None (d.Reference (codes "AccessRoot") 2 (1 ∷ []) (derivation.Leaf flavour.AccessIndex))))))))

abbrev pub groups : Deriv
groups = (d.Glue (glue.Sort ∷ []) (d.Goal (record { tables = 3; pushed = 0 }) (Some (1, 2)) (d.Reference (codes "JoinRoot") 1 [] (d.Reference (codes "Keyed") 1 [] (d.Binary flavour.JoinMerge (d.Glue (glue.Sort ∷ []) (d.Goal (record { tables = 1; pushed = 0 }) None (d.Reference (codes "AccessRoot") 1 [] (derivation.Leaf flavour.AccessHeap)))) (d.Glue (glue.Sort ∷ []) (d.Goal (record { tables = 2; pushed = 0 }) None (d.Reference (codes "AccessRoot") 1 [] (derivation.Leaf flavour.AccessHeap)))))))))

abbrev pub heap_for_department : Deriv
heap_for_department = (d.Glue [] (d.Goal (record { tables = 1; pushed = 0 }) None (d.Reference (codes "AccessRoot") 1 [] (derivation.Leaf flavour.AccessHeap))))

abbrev pub heap_is_sorted : Deriv
heap_is_sorted = (d.Glue (glue.Sort ∷ []) (d.Goal (record { tables = 1; pushed = 0 }) None (d.Reference (codes "AccessRoot") 1 [] (derivation.Leaf flavour.AccessHeap))))

abbrev pub heap_with_number : Deriv
heap_with_number = (d.Glue [] (d.Goal (record { tables = 1; pushed = 0 }) None (d.Reference (codes "AccessRoot") 1 (1 ∷ []) (derivation.Leaf flavour.AccessHeap))))

abbrev pub index_alone : Deriv
index_alone = (d.Glue [] (d.Goal (record { tables = 1; pushed = 0 }) None (d.Reference (codes "AccessRoot") 2 (1 ∷ []) (derivation.Leaf flavour.AccessIndex))))

abbrev pub index_and_get : Deriv
index_and_get = (d.Glue [] (d.Goal (record { tables = 1; pushed = 0 }) None (d.Reference (codes "AccessRoot") 3 (1 ∷ []) (d.Unary flavour.Get (derivation.Leaf flavour.AccessIndex)))))

abbrev pub index_has_the_order : Deriv
index_has_the_order = (d.Glue [] (d.Goal (record { tables = 1; pushed = 0 }) None (d.Reference (codes "AccessRoot") 2 (1 ∷ []) (derivation.Leaf flavour.AccessIndex))))

abbrev pub index_of_another_table : Deriv
index_of_another_table = (d.Glue (glue.Sort ∷ []) (d.Goal (record { tables = 3; pushed = 0 }) (Some (2, 1)) (d.Reference (codes "JoinRoot") 1 [] (d.Reference (codes "Both") 2 [] (d.Binary flavour.JoinHash (d.Glue [] (d.Goal (record { tables = 2; pushed = 0 }) None (d.Reference (codes "AccessRoot") 2 (1 ∷ []) (derivation.Leaf flavour.AccessIndex)))) (d.Glue [] (d.Goal (record { tables = 1; pushed = 0 }) None (d.Reference (codes "AccessRoot") 2 (1 ∷ []) (derivation.Leaf flavour.AccessIndex)))))))))

abbrev pub index_order_is_dearer : Deriv
index_order_is_dearer = (d.Glue [] (d.Goal (record { tables = 1; pushed = 0 }) None (d.Reference (codes "AccessRoot") 3 (1 ∷ []) (d.Unary flavour.Get (derivation.Leaf flavour.AccessIndex)))))

abbrev pub index_out_of_range : Deriv
index_out_of_range = (d.Glue [] (d.Goal (record { tables = 1; pushed = 0 }) None (d.Reference (codes "AccessRoot") 2 (2 ∷ []) (derivation.Leaf flavour.AccessIndex))))

abbrev pub index_without_number : Deriv
index_without_number = (d.Glue [] (d.Goal (record { tables = 1; pushed = 0 }) None (d.Reference (codes "AccessRoot") 2 [] (derivation.Leaf flavour.AccessIndex))))

abbrev pub joined_elsewhere : Deriv
joined_elsewhere = (d.Glue (glue.Ship ∷ []) (d.Goal (record { tables = 3; pushed = 0 }) (Some (1, 2)) (d.Reference (codes "JoinRoot") 1 (2 ∷ []) (d.Reference (codes "JoinAt") 2 [] (d.Binary flavour.JoinNl (d.Glue (glue.Ship ∷ []) (d.Goal (record { tables = 1; pushed = 0 }) None (d.Reference (codes "AccessRoot") 1 [] (derivation.Leaf flavour.AccessHeap)))) (d.Glue (glue.Ship ∷ glue.Store ∷ []) (d.Goal (record { tables = 2; pushed = 0 }) None (d.Reference (codes "AccessRoot") 1 [] (derivation.Leaf flavour.AccessHeap)))))))))

abbrev pub merged_by_index : Deriv
merged_by_index = (d.Glue [] (d.Goal (record { tables = 3; pushed = 0 }) (Some (1, 2)) (d.Reference (codes "JoinRoot") 1 (1 ∷ []) (d.Reference (codes "JoinAt") 3 [] (d.Reference (codes "Keyed") 1 [] (d.Binary flavour.JoinMerge (d.Glue (glue.Sort ∷ []) (d.Goal (record { tables = 1; pushed = 0 }) None (d.Reference (codes "AccessRoot") 1 [] (derivation.Leaf flavour.AccessHeap)))) (d.Glue [] (d.Goal (record { tables = 2; pushed = 0 }) None (d.Reference (codes "AccessRoot") 2 (1 ∷ []) (derivation.Leaf flavour.AccessIndex))))))))))

abbrev pub merged_in_order : Deriv
merged_in_order = (d.Glue [] (d.Goal (record { tables = 3; pushed = 0 }) (Some (1, 2)) (d.Reference (codes "JoinRoot") 1 [] (d.Reference (codes "Keyed") 1 [] (d.Binary flavour.JoinMerge (d.Glue (glue.Sort ∷ []) (d.Goal (record { tables = 1; pushed = 0 }) None (d.Reference (codes "AccessRoot") 1 [] (derivation.Leaf flavour.AccessHeap)))) (d.Glue (glue.Sort ∷ []) (d.Goal (record { tables = 2; pushed = 0 }) None (d.Reference (codes "AccessRoot") 1 [] (derivation.Leaf flavour.AccessHeap)))))))))

abbrev pub merged_then_sorted : Deriv
merged_then_sorted = (d.Glue (glue.Sort ∷ []) (d.Goal (record { tables = 3; pushed = 0 }) (Some (1, 2)) (d.Reference (codes "JoinRoot") 1 [] (d.Reference (codes "Keyed") 1 [] (d.Binary flavour.JoinMerge (d.Glue (glue.Sort ∷ []) (d.Goal (record { tables = 1; pushed = 0 }) None (d.Reference (codes "AccessRoot") 1 [] (derivation.Leaf flavour.AccessHeap)))) (d.Glue (glue.Sort ∷ []) (d.Goal (record { tables = 2; pushed = 0 }) None (d.Reference (codes "AccessRoot") 1 [] (derivation.Leaf flavour.AccessHeap)))))))))

abbrev pub no_split : Deriv
no_split = (d.Glue [] (d.Goal (record { tables = 3; pushed = 0 }) None (d.Reference (codes "JoinRoot") 1 [] (d.Binary flavour.JoinNl (d.Glue [] (d.Goal (record { tables = 1; pushed = 0 }) None (d.Reference (codes "AccessRoot") 1 [] (derivation.Leaf flavour.AccessHeap)))) (d.Glue [] (d.Goal (record { tables = 2; pushed = 0 }) None (d.Reference (codes "AccessRoot") 1 [] (derivation.Leaf flavour.AccessHeap))))))))

abbrev pub not_pushed : Deriv
not_pushed = (d.Glue [] (d.Goal (record { tables = 3; pushed = 0 }) (Some (1, 2)) (d.Reference (codes "JoinRoot") 2 [] (d.Binary flavour.JoinNl (d.Glue [] (d.Goal (record { tables = 1; pushed = 0 }) None (d.Reference (codes "AccessRoot") 1 [] (derivation.Leaf flavour.AccessHeap)))) (d.Glue [] (d.Goal (record { tables = 2; pushed = 0 }) None (d.Reference (codes "AccessRoot") 2 (1 ∷ []) (derivation.Leaf flavour.AccessIndex))))))))

abbrev pub not_shipped : Deriv
not_shipped = (d.Glue (glue.Sort ∷ []) (d.Goal (record { tables = 1; pushed = 0 }) None (d.Reference (codes "AccessRoot") 1 [] (derivation.Leaf flavour.AccessHeap))))

abbrev pub one_index_twice : Deriv
one_index_twice = (d.Glue [] (d.Goal (record { tables = 1; pushed = 0 }) None (d.Reference (codes "AccessRoot") 1 [] (d.Reference (codes "Paths") 3 (1 ∷ 1 ∷ []) (d.Unary flavour.Get (d.Binary flavour.Intersect (derivation.Leaf flavour.AccessIndex) (derivation.Leaf flavour.AccessIndex)))))))

abbrev pub other_access : Deriv
other_access = (d.Glue [] (d.Goal (record { tables = 1; pushed = 0 }) None (d.Reference (codes "AccessRoot") 1 [] (derivation.Leaf flavour.AccessIndex))))

abbrev pub other_join : Deriv
other_join = (d.Glue [] (d.Goal (record { tables = 3; pushed = 0 }) (Some (1, 2)) (d.Reference (codes "JoinRoot") 1 [] (d.Binary flavour.JoinHash (d.Glue [] (d.Goal (record { tables = 1; pushed = 0 }) None (d.Reference (codes "AccessRoot") 1 [] (derivation.Leaf flavour.AccessHeap)))) (d.Glue [] (d.Goal (record { tables = 2; pushed = 0 }) None (d.Reference (codes "AccessRoot") 1 [] (derivation.Leaf flavour.AccessHeap))))))))

abbrev pub other_operator : Deriv
other_operator = (d.Glue [] (d.Goal (record { tables = 1; pushed = 0 }) None (d.Reference (codes "AccessRoot") 2 [] (d.Unary flavour.Filter (derivation.Leaf flavour.AccessHeap)))))

abbrev pub other_star : Deriv
other_star = (d.Glue [] (d.Goal (record { tables = 1; pushed = 0 }) None (d.Reference (codes "JoinRoot") 1 [] (derivation.Leaf flavour.AccessHeap))))

abbrev pub pairs : Deriv
pairs = (d.Glue (glue.Sort ∷ []) (d.Goal (record { tables = 3; pushed = 0 }) (Some (1, 2)) (d.Reference (codes "JoinRoot") 1 [] (d.Binary flavour.JoinNl (d.Glue [] (d.Goal (record { tables = 1; pushed = 0 }) None (d.Reference (codes "AccessRoot") 1 [] (derivation.Leaf flavour.AccessHeap)))) (d.Glue [] (d.Goal (record { tables = 2; pushed = 0 }) None (d.Reference (codes "AccessRoot") 1 [] (derivation.Leaf flavour.AccessHeap))))))))

abbrev pub parts_exchanged : Deriv
parts_exchanged = (d.Glue [] (d.Goal (record { tables = 3; pushed = 0 }) (Some (1, 2)) (d.Reference (codes "JoinRoot") 1 [] (d.Binary flavour.JoinNl (d.Glue [] (d.Goal (record { tables = 2; pushed = 0 }) None (d.Reference (codes "AccessRoot") 1 [] (derivation.Leaf flavour.AccessHeap)))) (d.Glue [] (d.Goal (record { tables = 1; pushed = 0 }) None (d.Reference (codes "AccessRoot") 1 [] (derivation.Leaf flavour.AccessHeap))))))))

abbrev pub plain_heaps : Deriv
plain_heaps = (d.Glue [] (d.Goal (record { tables = 3; pushed = 0 }) (Some (1, 2)) (d.Reference (codes "JoinRoot") 1 [] (d.Binary flavour.JoinNl (d.Glue [] (d.Goal (record { tables = 1; pushed = 0 }) None (d.Reference (codes "AccessRoot") 1 [] (derivation.Leaf flavour.AccessHeap)))) (d.Glue [] (d.Goal (record { tables = 2; pushed = 0 }) None (d.Reference (codes "AccessRoot") 1 [] (derivation.Leaf flavour.AccessHeap))))))))

abbrev pub predicate_missing : Deriv
predicate_missing = (d.Glue [] (d.Goal (record { tables = 1; pushed = 0 }) None (d.Reference (codes "AccessRoot") 1 [] (derivation.Leaf flavour.AccessHeap))))

abbrev pub probed : Deriv
probed = (d.Glue [] (d.Goal (record { tables = 3; pushed = 0 }) (Some (1, 2)) (d.Reference (codes "JoinRoot") 1 (1 ∷ []) (d.Reference (codes "JoinAt") 3 [] (d.Reference (codes "Keyed") 3 [] (d.Binary flavour.JoinNl (d.Glue [] (d.Goal (record { tables = 1; pushed = 0 }) None (d.Reference (codes "AccessRoot") 1 [] (derivation.Leaf flavour.AccessHeap)))) (d.Unary flavour.Probe (d.Glue (glue.Store ∷ []) (d.Goal (record { tables = 2; pushed = 0 }) None (d.Reference (codes "AccessRoot") 2 (1 ∷ []) (derivation.Leaf flavour.AccessIndex)))))))))))

abbrev pub pushed_predicate : Deriv
pushed_predicate = (d.Glue [] (d.Goal (record { tables = 3; pushed = 0 }) (Some (1, 2)) (d.Reference (codes "JoinRoot") 1 [] (d.Binary flavour.JoinNl (d.Glue [] (d.Goal (record { tables = 1; pushed = 0 }) None (d.Reference (codes "AccessRoot") 1 [] (derivation.Leaf flavour.AccessHeap)))) (d.Glue [] (d.Goal (record { tables = 2; pushed = 1 }) None (d.Reference (codes "AccessRoot") 2 (1 ∷ []) (derivation.Leaf flavour.AccessIndex))))))))

abbrev pub pushed_twice : Deriv
pushed_twice = (d.Glue [] (d.Goal (record { tables = 7; pushed = 0 }) (Some (4, 3)) (d.Reference (codes "JoinRoot") 1 [] (d.Binary flavour.JoinNl (d.Glue [] (d.Goal (record { tables = 4; pushed = 0 }) None (d.Reference (codes "AccessRoot") 2 (1 ∷ []) (derivation.Leaf flavour.AccessIndex)))) (d.Glue [] (d.Goal (record { tables = 3; pushed = 2 }) (Some (1, 2)) (d.Reference (codes "JoinRoot") 2 [] (d.Binary flavour.JoinNl (d.Glue [] (d.Goal (record { tables = 1; pushed = 0 }) None (d.Reference (codes "AccessRoot") 1 [] (derivation.Leaf flavour.AccessHeap)))) (d.Glue [] (d.Goal (record { tables = 2; pushed = 2 }) None (d.Reference (codes "AccessRoot") 2 (1 ∷ []) (derivation.Leaf flavour.AccessIndex))))))))))))

abbrev pub read_alone : Deriv
read_alone = (d.Glue [] (d.Goal (record { tables = 1; pushed = 0 }) None (d.Reference (codes "AccessRoot") 1 [] (derivation.Leaf flavour.AccessHeap))))

abbrev pub read_and_stored : Deriv
read_and_stored = (d.Glue [] (d.Goal (record { tables = 1; pushed = 0 }) None (d.Reference (codes "AccessRoot") 2 [] (d.Unary flavour.Store (derivation.Leaf flavour.AccessHeap)))))

abbrev pub second_of_two : Deriv
second_of_two = (d.Glue [] (d.Goal (record { tables = 1; pushed = 0 }) None (d.Reference (codes "AccessRoot") 2 [] (derivation.Leaf flavour.AccessHeap))))

abbrev pub shipped_then_sorted : Deriv
shipped_then_sorted = (d.Glue (glue.Ship ∷ glue.Sort ∷ []) (d.Goal (record { tables = 1; pushed = 0 }) None (d.Reference (codes "AccessRoot") 1 [] (derivation.Leaf flavour.AccessHeap))))

abbrev pub shipped_then_sorted_exchanged : Deriv
shipped_then_sorted_exchanged = (d.Glue (glue.Ship ∷ glue.Sort ∷ []) (d.Goal (record { tables = 1; pushed = 0 }) None (d.Reference (codes "AccessRoot") 1 [] (derivation.Leaf flavour.AccessHeap))))

abbrev pub smallest : Deriv
smallest = (d.Glue [] (d.Goal (record { tables = 1; pushed = 0 }) None (d.Reference (codes "AccessRoot") 1 [] (derivation.Leaf flavour.AccessHeap))))

abbrev pub sorted_then_shipped : Deriv
sorted_then_shipped = (d.Glue (glue.Sort ∷ glue.Ship ∷ []) (d.Goal (record { tables = 1; pushed = 0 }) None (d.Reference (codes "AccessRoot") 1 [] (derivation.Leaf flavour.AccessHeap))))

abbrev pub sorted_then_shipped_exchanged : Deriv
sorted_then_shipped_exchanged = (d.Glue (glue.Sort ∷ glue.Ship ∷ []) (d.Goal (record { tables = 1; pushed = 0 }) None (d.Reference (codes "AccessRoot") 1 [] (derivation.Leaf flavour.AccessHeap))))

abbrev pub sorted_twice : Deriv
sorted_twice = (d.Glue (glue.Sort ∷ glue.Sort ∷ []) (d.Goal (record { tables = 1; pushed = 0 }) None (d.Reference (codes "AccessRoot") 1 [] (derivation.Leaf flavour.AccessHeap))))

abbrev pub split_of_less : Deriv
split_of_less = (d.Glue [] (d.Goal (record { tables = 7; pushed = 0 }) (Some (1, 2)) (d.Reference (codes "JoinRoot") 1 [] (d.Binary flavour.JoinNl (d.Glue [] (d.Goal (record { tables = 1; pushed = 0 }) None (d.Reference (codes "AccessRoot") 1 [] (derivation.Leaf flavour.AccessHeap)))) (d.Glue [] (d.Goal (record { tables = 2; pushed = 0 }) None (d.Reference (codes "AccessRoot") 1 [] (derivation.Leaf flavour.AccessHeap))))))))

abbrev pub split_of_one : Deriv
split_of_one = (d.Glue [] (d.Goal (record { tables = 1; pushed = 0 }) (Some (1, 1)) (d.Reference (codes "AccessRoot") 1 [] (derivation.Leaf flavour.AccessHeap))))

abbrev pub split_with_empty_part : Deriv
split_with_empty_part = (d.Glue [] (d.Goal (record { tables = 3; pushed = 0 }) (Some (0, 3)) (d.Reference (codes "JoinRoot") 1 [] (d.Binary flavour.JoinNl (d.Glue [] (d.Goal (record { tables = 0; pushed = 0 }) None (d.Reference (codes "AccessRoot") 1 [] (derivation.Leaf flavour.AccessHeap)))) (d.Glue [] (d.Goal (record { tables = 3; pushed = 0 }) None (d.Reference (codes "AccessRoot") 1 [] (derivation.Leaf flavour.AccessHeap))))))))

abbrev pub split_with_overlap : Deriv
split_with_overlap = (d.Glue [] (d.Goal (record { tables = 3; pushed = 0 }) (Some (3, 2)) (d.Reference (codes "JoinRoot") 1 [] (d.Binary flavour.JoinNl (d.Glue [] (d.Goal (record { tables = 3; pushed = 0 }) None (d.Reference (codes "AccessRoot") 1 [] (derivation.Leaf flavour.AccessHeap)))) (d.Glue [] (d.Goal (record { tables = 2; pushed = 0 }) None (d.Reference (codes "AccessRoot") 1 [] (derivation.Leaf flavour.AccessHeap))))))))

abbrev pub stored_again : Deriv
stored_again = (d.Glue [] (d.Goal (record { tables = 1; pushed = 0 }) None (d.Reference (codes "AccessRoot") 3 [] (d.Unary flavour.Store (d.Unary flavour.Store (derivation.Leaf flavour.AccessHeap))))))

abbrev pub stored_table : Deriv
stored_table = (d.Glue [] (d.Goal (record { tables = 1; pushed = 0 }) None (d.Reference (codes "AccessRoot") 1 [] (d.Unary flavour.Store (derivation.Leaf flavour.AccessHeap)))))

abbrev pub stored_without_need : Deriv
stored_without_need = (d.Glue (glue.Store ∷ []) (d.Goal (record { tables = 1; pushed = 0 }) None (d.Reference (codes "AccessRoot") 1 [] (derivation.Leaf flavour.AccessHeap))))

abbrev pub thousand_rows : Deriv
thousand_rows = (d.Glue [] (d.Goal (record { tables = 1; pushed = 0 }) None (d.Reference (codes "AccessRoot") 1 [] (derivation.Leaf flavour.AccessHeap))))

abbrev pub twice_as_frequent : Deriv
twice_as_frequent = (d.Glue [] (d.Goal (record { tables = 1; pushed = 0 }) None (d.Reference (codes "AccessRoot") 1 [] (derivation.Leaf flavour.AccessHeap))))

abbrev pub unsorted : Deriv
unsorted = (d.Glue [] (d.Goal (record { tables = 1; pushed = 0 }) None (d.Reference (codes "AccessRoot") 1 [] (derivation.Leaf flavour.AccessHeap))))

abbrev pub unsorted_input : Deriv
unsorted_input = (d.Glue (glue.Sort ∷ []) (d.Goal (record { tables = 3; pushed = 0 }) (Some (1, 2)) (d.Reference (codes "JoinRoot") 1 [] (d.Reference (codes "Keyed") 1 [] (d.Binary flavour.JoinMerge (d.Glue (glue.Sort ∷ []) (d.Goal (record { tables = 1; pushed = 0 }) None (d.Reference (codes "AccessRoot") 1 [] (derivation.Leaf flavour.AccessHeap)))) (d.Glue [] (d.Goal (record { tables = 2; pushed = 0 }) None (d.Reference (codes "AccessRoot") 1 [] (derivation.Leaf flavour.AccessHeap)))))))))

abbrev pub unstored_table : Deriv
unstored_table = (d.Glue [] (d.Goal (record { tables = 1; pushed = 0 }) None (d.Reference (codes "AccessRoot") 2 [] (derivation.Leaf flavour.AccessHeap))))

abbrev pub goal_of_pairs : Deriv
goal_of_pairs = (d.Goal (record { tables = 3; pushed = 0 }) (Some (1, 2)) (d.Reference (codes "JoinRoot") 1 [] (d.Binary flavour.JoinNl (d.Glue [] (d.Goal (record { tables = 1; pushed = 0 }) None (d.Reference (codes "AccessRoot") 1 [] (derivation.Leaf flavour.AccessHeap)))) (d.Glue [] (d.Goal (record { tables = 2; pushed = 0 }) None (d.Reference (codes "AccessRoot") 1 [] (derivation.Leaf flavour.AccessHeap)))))))

abbrev pub goal_of_pushed : Deriv
goal_of_pushed = (d.Goal (record { tables = 2; pushed = 1 }) None (d.Reference (codes "AccessRoot") 2 (1 ∷ []) (derivation.Leaf flavour.AccessIndex)))
