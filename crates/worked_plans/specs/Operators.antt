-- Written by tools/worked_plans.
-- Operators over streams, with the vectors of their results, and what is said of vectors.
use Rattle.std.specs.Prelude.{ℕ, Bool, true, false, List, [], ◌∷◌, Option, Some, None}
use Rattle.star_model.specs.declared.columns.Col.{Col}
use Rattle.star_model.specs.declared.plans.Props.{Props}
use Rattle.star_model.specs.declared.plans.Require.{Require}
use Rattle.star_model.specs.declared.plans.Op.{Op}
use Rattle.star_model.specs.declared.plans.Op.TheVariants as op
use Rattle.star_model.specs.declared.plans.GlueOp.{GlueOp}
use Rattle.star_model.specs.declared.plans.GlueOp.TheVariants as glue

abbrev pub dept_of_cities_under_standard : Props
dept_of_cities_under_standard = record { tables = 1; cols = (3 ∷ 0 ∷ 0 ∷ 0 ∷ 0 ∷ 0 ∷ 0 ∷ 0 ∷ 0 ∷ 0 ∷ 0 ∷ 0 ∷ []); preds = 0; order = []; site = record { 0 = 0 }; temp = false; path = []; card = 10; cost = 20; rescan = 20 }

abbrev pub emp_of_cities_under_standard : Props
emp_of_cities_under_standard = record { tables = 2; cols = (0 ∷ 3 ∷ 0 ∷ 0 ∷ 0 ∷ 0 ∷ 0 ∷ 0 ∷ 0 ∷ 0 ∷ 0 ∷ 0 ∷ []); preds = 0; order = []; site = record { 0 = 0 }; temp = false; path = []; card = 1000; cost = 2000; rescan = 2000 }

abbrev pub by_index_of_cities_under_standard : Props
by_index_of_cities_under_standard = record { tables = 2; cols = (0 ∷ 3 ∷ 0 ∷ 0 ∷ 0 ∷ 0 ∷ 0 ∷ 0 ∷ 0 ∷ 0 ∷ 0 ∷ 0 ∷ []); preds = 0; order = (record { quant = record { 0 = 1 }; column = 1 } ∷ record { quant = record { 0 = 1 }; column = 0 } ∷ []); site = record { 0 = 0 }; temp = false; path = []; card = 1000; cost = 1210; rescan = 1210 }

abbrev pub pushed_of_cities_under_standard : Props
pushed_of_cities_under_standard = record { tables = 2; cols = (0 ∷ 3 ∷ 0 ∷ 0 ∷ 0 ∷ 0 ∷ 0 ∷ 0 ∷ 0 ∷ 0 ∷ 0 ∷ 0 ∷ []); preds = 1; order = (record { quant = record { 0 = 1 }; column = 1 } ∷ record { quant = record { 0 = 1 }; column = 0 } ∷ []); site = record { 0 = 0 }; temp = false; path = []; card = 100; cost = 130; rescan = 130 }

abbrev pub sorted_of_cities_under_standard : Props
sorted_of_cities_under_standard = record { tables = 1; cols = (3 ∷ 0 ∷ 0 ∷ 0 ∷ 0 ∷ 0 ∷ 0 ∷ 0 ∷ 0 ∷ 0 ∷ 0 ∷ 0 ∷ []); preds = 0; order = (record { quant = record { 0 = 0 }; column = 0 } ∷ []); site = record { 0 = 0 }; temp = false; path = []; card = 10; cost = 60; rescan = 60 }

abbrev pub stored_of_cities_under_standard : Props
stored_of_cities_under_standard = record { tables = 2; cols = (0 ∷ 3 ∷ 0 ∷ 0 ∷ 0 ∷ 0 ∷ 0 ∷ 0 ∷ 0 ∷ 0 ∷ 0 ∷ 0 ∷ []); preds = 0; order = (record { quant = record { 0 = 1 }; column = 1 } ∷ record { quant = record { 0 = 1 }; column = 0 } ∷ []); site = record { 0 = 0 }; temp = true; path = (record { quant = record { 0 = 1 }; column = 1 } ∷ record { quant = record { 0 = 1 }; column = 0 } ∷ []); card = 1000; cost = 3210; rescan = 1000 }

abbrev pub by_index_of_names_of_department_under_standard : Props
by_index_of_names_of_department_under_standard = record { tables = 1; cols = (2 ∷ 0 ∷ 0 ∷ 0 ∷ 0 ∷ 0 ∷ 0 ∷ 0 ∷ 0 ∷ 0 ∷ 0 ∷ 0 ∷ []); preds = 1; order = (record { quant = record { 0 = 0 }; column = 1 } ∷ record { quant = record { 0 = 0 }; column = 0 } ∷ []); site = record { 0 = 0 }; temp = false; path = []; card = 100; cost = 130; rescan = 130 }

abbrev pub customers_of_french_orders_under_standard : Props
customers_of_french_orders_under_standard = record { tables = 1; cols = (7 ∷ 0 ∷ 0 ∷ 0 ∷ 0 ∷ 0 ∷ 0 ∷ 0 ∷ 0 ∷ 0 ∷ 0 ∷ 0 ∷ []); preds = 0; order = []; site = record { 0 = 0 }; temp = false; path = []; card = 150000; cost = 186000; rescan = 186000 }

abbrev pub nations_of_french_orders_under_standard : Props
nations_of_french_orders_under_standard = record { tables = 2; cols = (0 ∷ 3 ∷ 0 ∷ 0 ∷ 0 ∷ 0 ∷ 0 ∷ 0 ∷ 0 ∷ 0 ∷ 0 ∷ 0 ∷ []); preds = 2; order = []; site = record { 0 = 0 }; temp = false; path = []; card = 1; cost = 35; rescan = 35 }

abbrev pub orders_of_french_orders_under_standard : Props
orders_of_french_orders_under_standard = record { tables = 4; cols = (0 ∷ 0 ∷ 7 ∷ 0 ∷ 0 ∷ 0 ∷ 0 ∷ 0 ∷ 0 ∷ 0 ∷ 0 ∷ 0 ∷ []); preds = 8; order = []; site = record { 0 = 1 }; temp = false; path = []; card = 500000; cost = 3260000; rescan = 3260000 }

abbrev pub shipped_of_french_orders_under_standard : Props
shipped_of_french_orders_under_standard = record { tables = 4; cols = (0 ∷ 0 ∷ 7 ∷ 0 ∷ 0 ∷ 0 ∷ 0 ∷ 0 ∷ 0 ∷ 0 ∷ 0 ∷ 0 ∷ []); preds = 8; order = []; site = record { 0 = 0 }; temp = false; path = []; card = 500000; cost = 75260000; rescan = 75260000 }

abbrev pub keyed_of_french_orders_under_standard : Props
keyed_of_french_orders_under_standard = record { tables = 4; cols = (0 ∷ 0 ∷ 2 ∷ 0 ∷ 0 ∷ 0 ∷ 0 ∷ 0 ∷ 0 ∷ 0 ∷ 0 ∷ 0 ∷ []); preds = 0; order = (record { quant = record { 0 = 2 }; column = 1 } ∷ []); site = record { 0 = 1 }; temp = false; path = []; card = 1500000; cost = 3033010; rescan = 3033010 }

abbrev pub keyed_shipped_of_french_orders_under_standard : Props
keyed_shipped_of_french_orders_under_standard = record { tables = 4; cols = (0 ∷ 0 ∷ 2 ∷ 0 ∷ 0 ∷ 0 ∷ 0 ∷ 0 ∷ 0 ∷ 0 ∷ 0 ∷ 0 ∷ []); preds = 0; order = (record { quant = record { 0 = 2 }; column = 1 } ∷ []); site = record { 0 = 0 }; temp = false; path = []; card = 1500000; cost = 75033010; rescan = 75033010 }

abbrev pub pushed_of_french_orders_under_standard : Props
pushed_of_french_orders_under_standard = record { tables = 4; cols = (0 ∷ 0 ∷ 2 ∷ 0 ∷ 0 ∷ 0 ∷ 0 ∷ 0 ∷ 0 ∷ 0 ∷ 0 ∷ 0 ∷ []); preds = 4; order = (record { quant = record { 0 = 2 }; column = 1 } ∷ []); site = record { 0 = 1 }; temp = false; path = []; card = 10; cost = 31; rescan = 31 }

abbrev pub lines_of_french_orders_under_standard : Props
lines_of_french_orders_under_standard = record { tables = 8; cols = (0 ∷ 0 ∷ 0 ∷ 7 ∷ 0 ∷ 0 ∷ 0 ∷ 0 ∷ 0 ∷ 0 ∷ 0 ∷ 0 ∷ []); preds = 0; order = []; site = record { 0 = 1 }; temp = false; path = []; card = 6000000; cost = 13100000; rescan = 13100000 }

abbrev pub of_order_of_french_orders_under_standard : Props
of_order_of_french_orders_under_standard = record { tables = 8; cols = (0 ∷ 0 ∷ 0 ∷ 3 ∷ 0 ∷ 0 ∷ 0 ∷ 0 ∷ 0 ∷ 0 ∷ 0 ∷ 0 ∷ []); preds = 16; order = (record { quant = record { 0 = 3 }; column = 0 } ∷ record { quant = record { 0 = 3 }; column = 1 } ∷ []); site = record { 0 = 1 }; temp = false; path = []; card = 4; cost = 19; rescan = 19 }

abbrev pub all_orders_of_french_orders_under_standard : Props
all_orders_of_french_orders_under_standard = record { tables = 4; cols = (0 ∷ 0 ∷ 7 ∷ 0 ∷ 0 ∷ 0 ∷ 0 ∷ 0 ∷ 0 ∷ 0 ∷ 0 ∷ 0 ∷ []); preds = 0; order = []; site = record { 0 = 1 }; temp = false; path = []; card = 1500000; cost = 3260000; rescan = 3260000 }

abbrev pub all_shipped_of_french_orders_under_standard : Props
all_shipped_of_french_orders_under_standard = record { tables = 4; cols = (0 ∷ 0 ∷ 7 ∷ 0 ∷ 0 ∷ 0 ∷ 0 ∷ 0 ∷ 0 ∷ 0 ∷ 0 ∷ 0 ∷ []); preds = 0; order = []; site = record { 0 = 0 }; temp = false; path = []; card = 1500000; cost = 219260000; rescan = 219260000 }

abbrev pub parts_of_french_orders_under_standard : Props
parts_of_french_orders_under_standard = record { tables = 16; cols = (0 ∷ 0 ∷ 0 ∷ 0 ∷ 1 ∷ 0 ∷ 0 ∷ 0 ∷ 0 ∷ 0 ∷ 0 ∷ 0 ∷ []); preds = 0; order = (record { quant = record { 0 = 4 }; column = 0 } ∷ []); site = record { 0 = 0 }; temp = false; path = []; card = 200000; cost = 204410; rescan = 204410 }

abbrev pub t_of_shipped_under_heaps : Props
t_of_shipped_under_heaps = record { tables = 1; cols = (1 ∷ 0 ∷ 0 ∷ 0 ∷ 0 ∷ 0 ∷ 0 ∷ 0 ∷ 0 ∷ 0 ∷ 0 ∷ 0 ∷ []); preds = 0; order = []; site = record { 0 = 1 }; temp = false; path = []; card = 100; cost = 510; rescan = 510 }

abbrev pub a_of_generated_under_variables : Props
a_of_generated_under_variables = record { tables = 1; cols = (1 ∷ 0 ∷ 0 ∷ 0 ∷ 0 ∷ 0 ∷ 0 ∷ 0 ∷ 0 ∷ 0 ∷ 0 ∷ 0 ∷ []); preds = 0; order = []; site = record { 0 = 0 }; temp = false; path = []; card = 13; cost = 13003013000000001; rescan = 1000000000000008 }

abbrev pub b_of_generated_under_variables : Props
b_of_generated_under_variables = record { tables = 2; cols = (0 ∷ 3 ∷ 0 ∷ 0 ∷ 0 ∷ 0 ∷ 0 ∷ 0 ∷ 0 ∷ 0 ∷ 0 ∷ 0 ∷ []); preds = 1; order = (record { quant = record { 0 = 1 }; column = 1 } ∷ record { quant = record { 0 = 1 }; column = 0 } ∷ []); site = record { 0 = 0 }; temp = false; path = []; card = 2; cost = 2001015001000001; rescan = 1000000000000016 }

abbrev pub c_of_generated_under_variables : Props
c_of_generated_under_variables = record { tables = 2; cols = (0 ∷ 3 ∷ 0 ∷ 0 ∷ 0 ∷ 0 ∷ 0 ∷ 0 ∷ 0 ∷ 0 ∷ 0 ∷ 0 ∷ []); preds = 0; order = (record { quant = record { 0 = 1 }; column = 1 } ∷ record { quant = record { 0 = 1 }; column = 0 } ∷ []); site = record { 0 = 0 }; temp = false; path = []; card = 15; cost = 15001015000000001; rescan = 1000000000000016 }

abbrev pub d_of_generated_under_variables : Props
d_of_generated_under_variables = record { tables = 1; cols = (1 ∷ 0 ∷ 0 ∷ 0 ∷ 0 ∷ 0 ∷ 0 ∷ 0 ∷ 0 ∷ 0 ∷ 0 ∷ 0 ∷ []); preds = 0; order = (record { quant = record { 0 = 0 }; column = 1 } ∷ record { quant = record { 0 = 0 }; column = 0 } ∷ []); site = record { 0 = 0 }; temp = false; path = []; card = 13; cost = 13001013000000001; rescan = 1000000000000008 }

abbrev pub stored_of_generated_under_variables : Props
stored_of_generated_under_variables = record { tables = 2; cols = (0 ∷ 3 ∷ 0 ∷ 0 ∷ 0 ∷ 0 ∷ 0 ∷ 0 ∷ 0 ∷ 0 ∷ 0 ∷ 0 ∷ []); preds = 0; order = (record { quant = record { 0 = 1 }; column = 1 } ∷ record { quant = record { 0 = 1 }; column = 0 } ∷ []); site = record { 0 = 0 }; temp = true; path = (record { quant = record { 0 = 1 }; column = 1 } ∷ []); card = 15; cost = 15000000000000001; rescan = 1000015000016016 }

abbrev pub sorted_of_generated_under_variables : Props
sorted_of_generated_under_variables = record { tables = 1; cols = (1 ∷ 0 ∷ 0 ∷ 0 ∷ 0 ∷ 0 ∷ 0 ∷ 0 ∷ 0 ∷ 0 ∷ 0 ∷ 0 ∷ []); preds = 0; order = (record { quant = record { 0 = 0 }; column = 0 } ∷ []); site = record { 0 = 0 }; temp = false; path = []; card = 13; cost = 13000000000000001; rescan = 1000013000008008 }

abbrev pub customers_of_french_orders_under_variables : Props
customers_of_french_orders_under_variables = record { tables = 1; cols = (7 ∷ 0 ∷ 0 ∷ 0 ∷ 0 ∷ 0 ∷ 0 ∷ 0 ∷ 0 ∷ 0 ∷ 0 ∷ 0 ∷ []); preds = 0; order = []; site = record { 0 = 0 }; temp = false; path = []; card = 150000; cost = 1000000000000000000; rescan = 1000000000000041 }

abbrev pub orders_of_french_orders_under_variables : Props
orders_of_french_orders_under_variables = record { tables = 4; cols = (0 ∷ 0 ∷ 7 ∷ 0 ∷ 0 ∷ 0 ∷ 0 ∷ 0 ∷ 0 ∷ 0 ∷ 0 ∷ 0 ∷ []); preds = 0; order = []; site = record { 0 = 1 }; temp = false; path = []; card = 1500000; cost = 1000000000000000000; rescan = 1000000000000024 }

abbrev pub shipped_of_french_orders_under_variables : Props
shipped_of_french_orders_under_variables = record { tables = 4; cols = (0 ∷ 0 ∷ 7 ∷ 0 ∷ 0 ∷ 0 ∷ 0 ∷ 0 ∷ 0 ∷ 0 ∷ 0 ∷ 0 ∷ []); preds = 0; order = []; site = record { 0 = 0 }; temp = false; path = []; card = 1500000; cost = 1000000000000000000; rescan = 2500000000024024 }

abbrev pub sorted_of_french_orders_under_variables : Props
sorted_of_french_orders_under_variables = record { tables = 4; cols = (0 ∷ 0 ∷ 7 ∷ 0 ∷ 0 ∷ 0 ∷ 0 ∷ 0 ∷ 0 ∷ 0 ∷ 0 ∷ 0 ∷ []); preds = 0; order = (record { quant = record { 0 = 2 }; column = 1 } ∷ []); site = record { 0 = 0 }; temp = false; path = []; card = 1500000; cost = 1000000000000000000; rescan = 2500000000024024 }

abbrev pub keyed_of_french_orders_under_variables : Props
keyed_of_french_orders_under_variables = record { tables = 1; cols = (3 ∷ 0 ∷ 0 ∷ 0 ∷ 0 ∷ 0 ∷ 0 ∷ 0 ∷ 0 ∷ 0 ∷ 0 ∷ 0 ∷ []); preds = 0; order = (record { quant = record { 0 = 0 }; column = 1 } ∷ record { quant = record { 0 = 0 }; column = 0 } ∷ []); site = record { 0 = 0 }; temp = false; path = []; card = 150000; cost = 1000000000000000000; rescan = 1000000000000016 }

abbrev pub by_key_of_french_orders_under_variables : Props
by_key_of_french_orders_under_variables = record { tables = 1; cols = (3 ∷ 0 ∷ 0 ∷ 0 ∷ 0 ∷ 0 ∷ 0 ∷ 0 ∷ 0 ∷ 0 ∷ 0 ∷ 0 ∷ []); preds = 0; order = (record { quant = record { 0 = 0 }; column = 0 } ∷ []); site = record { 0 = 0 }; temp = false; path = []; card = 150000; cost = 1000000000000000000; rescan = 1150000000016016 }

abbrev pub t_of_shipped_under_variables : Props
t_of_shipped_under_variables = record { tables = 1; cols = (1 ∷ 0 ∷ 0 ∷ 0 ∷ 0 ∷ 0 ∷ 0 ∷ 0 ∷ 0 ∷ 0 ∷ 0 ∷ 0 ∷ []); preds = 0; order = []; site = record { 0 = 1 }; temp = false; path = []; card = 100; cost = 100001100000000005; rescan = 1000000000000008 }

abbrev pub near_of_shipped_under_variables : Props
near_of_shipped_under_variables = record { tables = 1; cols = (1 ∷ 0 ∷ 0 ∷ 0 ∷ 0 ∷ 0 ∷ 0 ∷ 0 ∷ 0 ∷ 0 ∷ 0 ∷ 0 ∷ []); preds = 0; order = []; site = record { 0 = 0 }; temp = false; path = []; card = 100; cost = 100000000000002005; rescan = 1000100000008008 }

abbrev pub n_of_two_tables_under_variables : Props
n_of_two_tables_under_variables = record { tables = 1; cols = (3 ∷ 0 ∷ 0 ∷ 0 ∷ 0 ∷ 0 ∷ 0 ∷ 0 ∷ 0 ∷ 0 ∷ 0 ∷ 0 ∷ []); preds = 0; order = []; site = record { 0 = 0 }; temp = false; path = []; card = 25; cost = 25001025000000001; rescan = 1000000000000033 }

abbrev pub e_of_compared_under_standard : Props
e_of_compared_under_standard = record { tables = 1; cols = (7 ∷ 0 ∷ 0 ∷ 0 ∷ 0 ∷ 0 ∷ 0 ∷ 0 ∷ 0 ∷ 0 ∷ 0 ∷ 0 ∷ []); preds = 0; order = []; site = record { 0 = 0 }; temp = false; path = []; card = 1000; cost = 2000; rescan = 2000 }

abbrev pub f_of_compared_under_standard : Props
f_of_compared_under_standard = record { tables = 2; cols = (0 ∷ 3 ∷ 0 ∷ 0 ∷ 0 ∷ 0 ∷ 0 ∷ 0 ∷ 0 ∷ 0 ∷ 0 ∷ 0 ∷ []); preds = 0; order = []; site = record { 0 = 0 }; temp = false; path = []; card = 1000; cost = 2000; rescan = 2000 }

abbrev pub l_of_words_by_both_under_merge : Props
l_of_words_by_both_under_merge = record { tables = 1; cols = (1 ∷ 0 ∷ 0 ∷ 0 ∷ 0 ∷ 0 ∷ 0 ∷ 0 ∷ 0 ∷ 0 ∷ 0 ∷ 0 ∷ []); preds = 0; order = (record { quant = record { 0 = 0 }; column = 0 } ∷ []); site = record { 0 = 0 }; temp = false; path = []; card = 2; cost = 20; rescan = 20 }

abbrev pub r_of_words_by_both_under_merge : Props
r_of_words_by_both_under_merge = record { tables = 2; cols = (0 ∷ 3 ∷ 0 ∷ 0 ∷ 0 ∷ 0 ∷ 0 ∷ 0 ∷ 0 ∷ 0 ∷ 0 ∷ 0 ∷ []); preds = 0; order = (record { quant = record { 0 = 1 }; column = 0 } ∷ []); site = record { 0 = 0 }; temp = false; path = []; card = 3; cost = 25; rescan = 25 }

abbrev pub merged_of_words_by_both_under_merge : Props
merged_of_words_by_both_under_merge = record { tables = 3; cols = (1 ∷ 3 ∷ 0 ∷ 0 ∷ 0 ∷ 0 ∷ 0 ∷ 0 ∷ 0 ∷ 0 ∷ 0 ∷ 0 ∷ []); preds = 1; order = (record { quant = record { 0 = 0 }; column = 0 } ∷ []); site = record { 0 = 0 }; temp = false; path = []; card = 6; cost = 50; rescan = 50 }

abbrev pub crossed_of_words_by_both_under_merge : Props
crossed_of_words_by_both_under_merge = record { tables = 3; cols = (1 ∷ 3 ∷ 0 ∷ 0 ∷ 0 ∷ 0 ∷ 0 ∷ 0 ∷ 0 ∷ 0 ∷ 0 ∷ 0 ∷ []); preds = 0; order = (record { quant = record { 0 = 0 }; column = 0 } ∷ []); site = record { 0 = 0 }; temp = false; path = []; card = 6; cost = 50; rescan = 50 }

abbrev pub e_of_own_department_under_standard : Props
e_of_own_department_under_standard = record { tables = 1; cols = (3 ∷ 0 ∷ 0 ∷ 0 ∷ 0 ∷ 0 ∷ 0 ∷ 0 ∷ 0 ∷ 0 ∷ 0 ∷ 0 ∷ []); preds = 1; order = []; site = record { 0 = 0 }; temp = false; path = []; card = 1; cost = 2000; rescan = 2000 }

abbrev pub by_index_of_own_department_under_standard : Props
by_index_of_own_department_under_standard = record { tables = 1; cols = (3 ∷ 0 ∷ 0 ∷ 0 ∷ 0 ∷ 0 ∷ 0 ∷ 0 ∷ 0 ∷ 0 ∷ 0 ∷ 0 ∷ []); preds = 0; order = (record { quant = record { 0 = 0 }; column = 1 } ∷ record { quant = record { 0 = 0 }; column = 0 } ∷ []); site = record { 0 = 0 }; temp = false; path = []; card = 1000; cost = 1210; rescan = 1210 }

abbrev pub stored_of_own_department_under_standard : Props
stored_of_own_department_under_standard = record { tables = 1; cols = (3 ∷ 0 ∷ 0 ∷ 0 ∷ 0 ∷ 0 ∷ 0 ∷ 0 ∷ 0 ∷ 0 ∷ 0 ∷ 0 ∷ []); preds = 0; order = (record { quant = record { 0 = 0 }; column = 1 } ∷ record { quant = record { 0 = 0 }; column = 0 } ∷ []); site = record { 0 = 0 }; temp = true; path = (record { quant = record { 0 = 0 }; column = 1 } ∷ record { quant = record { 0 = 0 }; column = 0 } ∷ []); card = 1000; cost = 3210; rescan = 1000 }

abbrev pub d_of_colleagues_under_standard : Props
d_of_colleagues_under_standard = record { tables = 1; cols = (1 ∷ 0 ∷ 0 ∷ 0 ∷ 0 ∷ 0 ∷ 0 ∷ 0 ∷ 0 ∷ 0 ∷ 0 ∷ 0 ∷ []); preds = 0; order = (record { quant = record { 0 = 0 }; column = 0 } ∷ []); site = record { 0 = 0 }; temp = false; path = []; card = 10; cost = 60; rescan = 60 }

abbrev pub e_of_colleagues_under_standard : Props
e_of_colleagues_under_standard = record { tables = 2; cols = (0 ∷ 3 ∷ 0 ∷ 0 ∷ 0 ∷ 0 ∷ 0 ∷ 0 ∷ 0 ∷ 0 ∷ 0 ∷ 0 ∷ []); preds = 0; order = (record { quant = record { 0 = 1 }; column = 1 } ∷ record { quant = record { 0 = 1 }; column = 0 } ∷ []); site = record { 0 = 0 }; temp = false; path = []; card = 1000; cost = 1210; rescan = 1210 }

abbrev pub f_of_colleagues_under_standard : Props
f_of_colleagues_under_standard = record { tables = 4; cols = (0 ∷ 0 ∷ 2 ∷ 0 ∷ 0 ∷ 0 ∷ 0 ∷ 0 ∷ 0 ∷ 0 ∷ 0 ∷ 0 ∷ []); preds = 0; order = (record { quant = record { 0 = 2 }; column = 1 } ∷ record { quant = record { 0 = 2 }; column = 0 } ∷ []); site = record { 0 = 0 }; temp = false; path = []; card = 1000; cost = 1210; rescan = 1210 }

abbrev pub pairs_of_colleagues_under_standard : Props
pairs_of_colleagues_under_standard = record { tables = 3; cols = (1 ∷ 3 ∷ 0 ∷ 0 ∷ 0 ∷ 0 ∷ 0 ∷ 0 ∷ 0 ∷ 0 ∷ 0 ∷ 0 ∷ []); preds = 1; order = (record { quant = record { 0 = 0 }; column = 0 } ∷ []); site = record { 0 = 0 }; temp = false; path = []; card = 1000; cost = 2280; rescan = 2280 }

abbrev pub by_a_of_two_indexes_under_intersect : Props
by_a_of_two_indexes_under_intersect = record { tables = 1; cols = (2 ∷ 0 ∷ 0 ∷ 0 ∷ 0 ∷ 0 ∷ 0 ∷ 0 ∷ 0 ∷ 0 ∷ 0 ∷ 0 ∷ []); preds = 1; order = (record { quant = record { 0 = 0 }; column = 1 } ∷ []); site = record { 0 = 0 }; temp = false; path = []; card = 100; cost = 120; rescan = 120 }

abbrev pub by_b_of_two_indexes_under_intersect : Props
by_b_of_two_indexes_under_intersect = record { tables = 1; cols = (4 ∷ 0 ∷ 0 ∷ 0 ∷ 0 ∷ 0 ∷ 0 ∷ 0 ∷ 0 ∷ 0 ∷ 0 ∷ 0 ∷ []); preds = 2; order = (record { quant = record { 0 = 0 }; column = 2 } ∷ []); site = record { 0 = 0 }; temp = false; path = []; card = 50; cost = 65; rescan = 65 }

abbrev pub both_of_two_indexes_under_intersect : Props
both_of_two_indexes_under_intersect = record { tables = 1; cols = (6 ∷ 0 ∷ 0 ∷ 0 ∷ 0 ∷ 0 ∷ 0 ∷ 0 ∷ 0 ∷ 0 ∷ 0 ∷ 0 ∷ []); preds = 3; order = (record { quant = record { 0 = 0 }; column = 1 } ∷ []); site = record { 0 = 0 }; temp = false; path = []; card = 5; cost = 335; rescan = 335 }

abbrev pub dept_of_cities_under_intersect : Props
dept_of_cities_under_intersect = record { tables = 1; cols = (3 ∷ 0 ∷ 0 ∷ 0 ∷ 0 ∷ 0 ∷ 0 ∷ 0 ∷ 0 ∷ 0 ∷ 0 ∷ 0 ∷ []); preds = 0; order = []; site = record { 0 = 0 }; temp = false; path = []; card = 10; cost = 20; rescan = 20 }

abbrev pub emp_of_cities_under_intersect : Props
emp_of_cities_under_intersect = record { tables = 2; cols = (0 ∷ 3 ∷ 0 ∷ 0 ∷ 0 ∷ 0 ∷ 0 ∷ 0 ∷ 0 ∷ 0 ∷ 0 ∷ 0 ∷ []); preds = 0; order = []; site = record { 0 = 0 }; temp = false; path = []; card = 1000; cost = 2000; rescan = 2000 }

abbrev pub pushed_of_cities_under_intersect : Props
pushed_of_cities_under_intersect = record { tables = 2; cols = (0 ∷ 3 ∷ 0 ∷ 0 ∷ 0 ∷ 0 ∷ 0 ∷ 0 ∷ 0 ∷ 0 ∷ 0 ∷ 0 ∷ []); preds = 1; order = (record { quant = record { 0 = 1 }; column = 1 } ∷ record { quant = record { 0 = 1 }; column = 0 } ∷ []); site = record { 0 = 0 }; temp = false; path = []; card = 100; cost = 130; rescan = 130 }

abbrev pub joined_of_cities_under_intersect : Props
joined_of_cities_under_intersect = record { tables = 3; cols = (3 ∷ 3 ∷ 0 ∷ 0 ∷ 0 ∷ 0 ∷ 0 ∷ 0 ∷ 0 ∷ 0 ∷ 0 ∷ 0 ∷ []); preds = 1; order = []; site = record { 0 = 0 }; temp = false; path = []; card = 1000; cost = 1320; rescan = 1320 }

abbrev pub access_heap_of_cities_under_standard : List (Op × List Props × Option Props)
access_heap_of_cities_under_standard =
    ((op.AccessHeap 1 0), [], Some (dept_of_cities_under_standard))
    ∷ ((op.AccessHeap 2 0), [], Some (emp_of_cities_under_standard))
    ∷ ((op.AccessHeap 2 1), [], Some (record { tables = 2; cols = (0 ∷ 3 ∷ 0 ∷ 0 ∷ 0 ∷ 0 ∷ 0 ∷ 0 ∷ 0 ∷ 0 ∷ 0 ∷ 0 ∷ []); preds = 1; order = []; site = record { 0 = 0 }; temp = false; path = []; card = 100; cost = 2000; rescan = 2000 }))
    ∷ ((op.AccessHeap 1 1), [], Some (record { tables = 1; cols = (3 ∷ 0 ∷ 0 ∷ 0 ∷ 0 ∷ 0 ∷ 0 ∷ 0 ∷ 0 ∷ 0 ∷ 0 ∷ 0 ∷ []); preds = 1; order = []; site = record { 0 = 0 }; temp = false; path = []; card = 1; cost = 20; rescan = 20 }))
    ∷ ((op.AccessHeap 3 0), [], None)
    ∷ ((op.AccessHeap 0 0), [], None)
    ∷ []

abbrev pub access_index_of_cities_under_standard : List (Op × List Props × Option Props)
access_index_of_cities_under_standard =
    ((op.AccessIndex 2 0 0), [], Some (by_index_of_cities_under_standard))
    ∷ ((op.AccessIndex 2 0 1), [], Some (pushed_of_cities_under_standard))
    ∷ ((op.AccessIndex 1 0 0), [], None)
    ∷ ((op.AccessIndex 3 0 0), [], None)
    ∷ []

abbrev pub sort_of_cities_under_standard : List (Op × List Props × Option Props)
sort_of_cities_under_standard =
    ((op.Sort (record { quant = record { 0 = 0 }; column = 0 } ∷ [])), (dept_of_cities_under_standard ∷ []), Some (sorted_of_cities_under_standard))
    ∷ ((op.Sort (record { quant = record { 0 = 1 }; column = 1 } ∷ [])), (emp_of_cities_under_standard ∷ []), Some (record { tables = 2; cols = (0 ∷ 3 ∷ 0 ∷ 0 ∷ 0 ∷ 0 ∷ 0 ∷ 0 ∷ 0 ∷ 0 ∷ 0 ∷ 0 ∷ []); preds = 0; order = (record { quant = record { 0 = 1 }; column = 1 } ∷ []); site = record { 0 = 0 }; temp = false; path = []; card = 1000; cost = 6000; rescan = 6000 }))
    ∷ ((op.Sort (record { quant = record { 0 = 1 }; column = 0 } ∷ [])), (by_index_of_cities_under_standard ∷ []), Some (record { tables = 2; cols = (0 ∷ 3 ∷ 0 ∷ 0 ∷ 0 ∷ 0 ∷ 0 ∷ 0 ∷ 0 ∷ 0 ∷ 0 ∷ 0 ∷ []); preds = 0; order = (record { quant = record { 0 = 1 }; column = 0 } ∷ []); site = record { 0 = 0 }; temp = false; path = []; card = 1000; cost = 5210; rescan = 5210 }))
    ∷ ((op.Sort []), (emp_of_cities_under_standard ∷ []), None)
    ∷ ((op.Sort (record { quant = record { 0 = 1 }; column = 2 } ∷ [])), (emp_of_cities_under_standard ∷ []), None)
    ∷ ((op.Sort (record { quant = record { 0 = 1 }; column = 0 } ∷ record { quant = record { 0 = 0 }; column = 0 } ∷ [])), (emp_of_cities_under_standard ∷ []), None)
    ∷ ((op.Sort (record { quant = record { 0 = 1 }; column = 0 } ∷ [])), (stored_of_cities_under_standard ∷ []), Some (record { tables = 2; cols = (0 ∷ 3 ∷ 0 ∷ 0 ∷ 0 ∷ 0 ∷ 0 ∷ 0 ∷ 0 ∷ 0 ∷ 0 ∷ 0 ∷ []); preds = 0; order = (record { quant = record { 0 = 1 }; column = 0 } ∷ []); site = record { 0 = 0 }; temp = false; path = []; card = 1000; cost = 7210; rescan = 5000 }))
    ∷ []

abbrev pub store_of_cities_under_standard : List (Op × List Props × Option Props)
store_of_cities_under_standard =
    ((op.Store (record { quant = record { 0 = 1 }; column = 1 } ∷ record { quant = record { 0 = 1 }; column = 0 } ∷ [])), (by_index_of_cities_under_standard ∷ []), Some (stored_of_cities_under_standard))
    ∷ ((op.Store []), (emp_of_cities_under_standard ∷ []), Some (record { tables = 2; cols = (0 ∷ 3 ∷ 0 ∷ 0 ∷ 0 ∷ 0 ∷ 0 ∷ 0 ∷ 0 ∷ 0 ∷ 0 ∷ 0 ∷ []); preds = 0; order = []; site = record { 0 = 0 }; temp = true; path = []; card = 1000; cost = 4000; rescan = 1000 }))
    ∷ ((op.Store (record { quant = record { 0 = 1 }; column = 1 } ∷ [])), (emp_of_cities_under_standard ∷ []), Some (record { tables = 2; cols = (0 ∷ 3 ∷ 0 ∷ 0 ∷ 0 ∷ 0 ∷ 0 ∷ 0 ∷ 0 ∷ 0 ∷ 0 ∷ 0 ∷ []); preds = 0; order = []; site = record { 0 = 0 }; temp = true; path = (record { quant = record { 0 = 1 }; column = 1 } ∷ []); card = 1000; cost = 4000; rescan = 1000 }))
    ∷ ((op.Store []), (by_index_of_cities_under_standard ∷ []), Some (record { tables = 2; cols = (0 ∷ 3 ∷ 0 ∷ 0 ∷ 0 ∷ 0 ∷ 0 ∷ 0 ∷ 0 ∷ 0 ∷ 0 ∷ 0 ∷ []); preds = 0; order = (record { quant = record { 0 = 1 }; column = 1 } ∷ record { quant = record { 0 = 1 }; column = 0 } ∷ []); site = record { 0 = 0 }; temp = true; path = []; card = 1000; cost = 3210; rescan = 1000 }))
    ∷ ((op.Store []), (pushed_of_cities_under_standard ∷ []), None)
    ∷ ((op.Store (record { quant = record { 0 = 1 }; column = 2 } ∷ [])), (emp_of_cities_under_standard ∷ []), None)
    ∷ ((op.Store (record { quant = record { 0 = 1 }; column = 0 } ∷ [])), (stored_of_cities_under_standard ∷ []), Some (record { tables = 2; cols = (0 ∷ 3 ∷ 0 ∷ 0 ∷ 0 ∷ 0 ∷ 0 ∷ 0 ∷ 0 ∷ 0 ∷ 0 ∷ 0 ∷ []); preds = 0; order = (record { quant = record { 0 = 1 }; column = 1 } ∷ record { quant = record { 0 = 1 }; column = 0 } ∷ []); site = record { 0 = 0 }; temp = true; path = (record { quant = record { 0 = 1 }; column = 0 } ∷ []); card = 1000; cost = 5210; rescan = 1000 }))
    ∷ []

abbrev pub get_of_cities_under_standard : List (Op × List Props × Option Props)
get_of_cities_under_standard =
    ((op.Get 2 0), (by_index_of_cities_under_standard ∷ []), Some (record { tables = 2; cols = (0 ∷ 3 ∷ 0 ∷ 0 ∷ 0 ∷ 0 ∷ 0 ∷ 0 ∷ 0 ∷ 0 ∷ 0 ∷ 0 ∷ []); preds = 0; order = (record { quant = record { 0 = 1 }; column = 1 } ∷ record { quant = record { 0 = 1 }; column = 0 } ∷ []); site = record { 0 = 0 }; temp = false; path = []; card = 1000; cost = 11210; rescan = 11210 }))
    ∷ ((op.Get 2 1), (by_index_of_cities_under_standard ∷ []), Some (record { tables = 2; cols = (0 ∷ 3 ∷ 0 ∷ 0 ∷ 0 ∷ 0 ∷ 0 ∷ 0 ∷ 0 ∷ 0 ∷ 0 ∷ 0 ∷ []); preds = 1; order = (record { quant = record { 0 = 1 }; column = 1 } ∷ record { quant = record { 0 = 1 }; column = 0 } ∷ []); site = record { 0 = 0 }; temp = false; path = []; card = 100; cost = 12210; rescan = 12210 }))
    ∷ ((op.Get 2 0), (pushed_of_cities_under_standard ∷ []), Some (record { tables = 2; cols = (0 ∷ 3 ∷ 0 ∷ 0 ∷ 0 ∷ 0 ∷ 0 ∷ 0 ∷ 0 ∷ 0 ∷ 0 ∷ 0 ∷ []); preds = 1; order = (record { quant = record { 0 = 1 }; column = 1 } ∷ record { quant = record { 0 = 1 }; column = 0 } ∷ []); site = record { 0 = 0 }; temp = false; path = []; card = 100; cost = 1130; rescan = 1130 }))
    ∷ ((op.Get 1 0), (by_index_of_cities_under_standard ∷ []), None)
    ∷ ((op.Get 2 0), (dept_of_cities_under_standard ∷ []), None)
    ∷ ((op.Get 2 0), (stored_of_cities_under_standard ∷ []), Some (record { tables = 2; cols = (0 ∷ 3 ∷ 0 ∷ 0 ∷ 0 ∷ 0 ∷ 0 ∷ 0 ∷ 0 ∷ 0 ∷ 0 ∷ 0 ∷ []); preds = 0; order = (record { quant = record { 0 = 1 }; column = 1 } ∷ record { quant = record { 0 = 1 }; column = 0 } ∷ []); site = record { 0 = 0 }; temp = false; path = []; card = 1000; cost = 13210; rescan = 11000 }))
    ∷ []

abbrev pub filter_of_cities_under_standard : List (Op × List Props × Option Props)
filter_of_cities_under_standard =
    ((op.Filter 1), (emp_of_cities_under_standard ∷ []), Some (record { tables = 2; cols = (0 ∷ 3 ∷ 0 ∷ 0 ∷ 0 ∷ 0 ∷ 0 ∷ 0 ∷ 0 ∷ 0 ∷ 0 ∷ 0 ∷ []); preds = 1; order = []; site = record { 0 = 0 }; temp = false; path = []; card = 100; cost = 3000; rescan = 3000 }))
    ∷ ((op.Filter 0), (emp_of_cities_under_standard ∷ []), Some (record { tables = 2; cols = (0 ∷ 3 ∷ 0 ∷ 0 ∷ 0 ∷ 0 ∷ 0 ∷ 0 ∷ 0 ∷ 0 ∷ 0 ∷ 0 ∷ []); preds = 0; order = []; site = record { 0 = 0 }; temp = false; path = []; card = 1000; cost = 2000; rescan = 2000 }))
    ∷ ((op.Filter 1), (pushed_of_cities_under_standard ∷ []), Some (record { tables = 2; cols = (0 ∷ 3 ∷ 0 ∷ 0 ∷ 0 ∷ 0 ∷ 0 ∷ 0 ∷ 0 ∷ 0 ∷ 0 ∷ 0 ∷ []); preds = 1; order = (record { quant = record { 0 = 1 }; column = 1 } ∷ record { quant = record { 0 = 1 }; column = 0 } ∷ []); site = record { 0 = 0 }; temp = false; path = []; card = 100; cost = 230; rescan = 230 }))
    ∷ ((op.Filter 1), (stored_of_cities_under_standard ∷ []), Some (record { tables = 2; cols = (0 ∷ 3 ∷ 0 ∷ 0 ∷ 0 ∷ 0 ∷ 0 ∷ 0 ∷ 0 ∷ 0 ∷ 0 ∷ 0 ∷ []); preds = 1; order = (record { quant = record { 0 = 1 }; column = 1 } ∷ record { quant = record { 0 = 1 }; column = 0 } ∷ []); site = record { 0 = 0 }; temp = false; path = []; card = 100; cost = 4210; rescan = 2000 }))
    ∷ []

abbrev pub ship_of_cities_under_standard : List (Op × List Props × Option Props)
ship_of_cities_under_standard =
    ((op.Ship (record { 0 = 0 })), (emp_of_cities_under_standard ∷ []), None)
    ∷ []

abbrev pub join_nl_of_cities_under_standard : List (Op × List Props × Option Props)
join_nl_of_cities_under_standard =
    ((op.JoinNl 1), (dept_of_cities_under_standard ∷ stored_of_cities_under_standard ∷ []), Some (record { tables = 3; cols = (3 ∷ 3 ∷ 0 ∷ 0 ∷ 0 ∷ 0 ∷ 0 ∷ 0 ∷ 0 ∷ 0 ∷ 0 ∷ 0 ∷ []); preds = 1; order = []; site = record { 0 = 0 }; temp = false; path = []; card = 1000; cost = 12230; rescan = 10020 }))
    ∷ ((op.JoinNl 0), (dept_of_cities_under_standard ∷ pushed_of_cities_under_standard ∷ []), Some (record { tables = 3; cols = (3 ∷ 3 ∷ 0 ∷ 0 ∷ 0 ∷ 0 ∷ 0 ∷ 0 ∷ 0 ∷ 0 ∷ 0 ∷ 0 ∷ []); preds = 1; order = []; site = record { 0 = 0 }; temp = false; path = []; card = 1000; cost = 1320; rescan = 1320 }))
    ∷ ((op.JoinNl 1), (dept_of_cities_under_standard ∷ emp_of_cities_under_standard ∷ []), Some (record { tables = 3; cols = (3 ∷ 3 ∷ 0 ∷ 0 ∷ 0 ∷ 0 ∷ 0 ∷ 0 ∷ 0 ∷ 0 ∷ 0 ∷ 0 ∷ []); preds = 1; order = []; site = record { 0 = 0 }; temp = false; path = []; card = 1000; cost = 20020; rescan = 20020 }))
    ∷ ((op.JoinNl 0), (dept_of_cities_under_standard ∷ emp_of_cities_under_standard ∷ []), Some (record { tables = 3; cols = (3 ∷ 3 ∷ 0 ∷ 0 ∷ 0 ∷ 0 ∷ 0 ∷ 0 ∷ 0 ∷ 0 ∷ 0 ∷ 0 ∷ []); preds = 0; order = []; site = record { 0 = 0 }; temp = false; path = []; card = 10000; cost = 20020; rescan = 20020 }))
    ∷ ((op.JoinNl 1), (emp_of_cities_under_standard ∷ dept_of_cities_under_standard ∷ []), Some (record { tables = 3; cols = (3 ∷ 3 ∷ 0 ∷ 0 ∷ 0 ∷ 0 ∷ 0 ∷ 0 ∷ 0 ∷ 0 ∷ 0 ∷ 0 ∷ []); preds = 1; order = []; site = record { 0 = 0 }; temp = false; path = []; card = 1000; cost = 22000; rescan = 22000 }))
    ∷ ((op.JoinNl 1), (by_index_of_cities_under_standard ∷ dept_of_cities_under_standard ∷ []), Some (record { tables = 3; cols = (3 ∷ 3 ∷ 0 ∷ 0 ∷ 0 ∷ 0 ∷ 0 ∷ 0 ∷ 0 ∷ 0 ∷ 0 ∷ 0 ∷ []); preds = 1; order = (record { quant = record { 0 = 0 }; column = 0 } ∷ record { quant = record { 0 = 1 }; column = 0 } ∷ []); site = record { 0 = 0 }; temp = false; path = []; card = 1000; cost = 21210; rescan = 21210 }))
    ∷ ((op.JoinNl 0), (pushed_of_cities_under_standard ∷ dept_of_cities_under_standard ∷ []), None)
    ∷ ((op.JoinNl 0), (dept_of_cities_under_standard ∷ dept_of_cities_under_standard ∷ []), None)
    ∷ ((op.JoinNl 1), (sorted_of_cities_under_standard ∷ pushed_of_cities_under_standard ∷ []), Some (record { tables = 3; cols = (3 ∷ 3 ∷ 0 ∷ 0 ∷ 0 ∷ 0 ∷ 0 ∷ 0 ∷ 0 ∷ 0 ∷ 0 ∷ 0 ∷ []); preds = 1; order = (record { quant = record { 0 = 0 }; column = 0 } ∷ []); site = record { 0 = 0 }; temp = false; path = []; card = 1000; cost = 1360; rescan = 1360 }))
    ∷ []

abbrev pub join_hash_of_cities_under_standard : List (Op × List Props × Option Props)
join_hash_of_cities_under_standard =
    ((op.JoinHash 1 0), (stored_of_cities_under_standard ∷ dept_of_cities_under_standard ∷ []), Some (record { tables = 3; cols = (3 ∷ 3 ∷ 0 ∷ 0 ∷ 0 ∷ 0 ∷ 0 ∷ 0 ∷ 0 ∷ 0 ∷ 0 ∷ 0 ∷ []); preds = 1; order = []; site = record { 0 = 0 }; temp = false; path = []; card = 1000; cost = 4250; rescan = 2040 }))
    ∷ ((op.JoinHash 1 0), (dept_of_cities_under_standard ∷ emp_of_cities_under_standard ∷ []), Some (record { tables = 3; cols = (3 ∷ 3 ∷ 0 ∷ 0 ∷ 0 ∷ 0 ∷ 0 ∷ 0 ∷ 0 ∷ 0 ∷ 0 ∷ 0 ∷ []); preds = 1; order = []; site = record { 0 = 0 }; temp = false; path = []; card = 1000; cost = 4030; rescan = 4030 }))
    ∷ ((op.JoinHash 1 1), (sorted_of_cities_under_standard ∷ by_index_of_cities_under_standard ∷ []), Some (record { tables = 3; cols = (3 ∷ 3 ∷ 0 ∷ 0 ∷ 0 ∷ 0 ∷ 0 ∷ 0 ∷ 0 ∷ 0 ∷ 0 ∷ 0 ∷ []); preds = 1; order = []; site = record { 0 = 0 }; temp = false; path = []; card = 1000; cost = 3280; rescan = 3280 }))
    ∷ ((op.JoinHash 0 1), (dept_of_cities_under_standard ∷ emp_of_cities_under_standard ∷ []), None)
    ∷ ((op.JoinHash 1 0), (dept_of_cities_under_standard ∷ pushed_of_cities_under_standard ∷ []), None)
    ∷ ((op.JoinHash 1 0), (pushed_of_cities_under_standard ∷ dept_of_cities_under_standard ∷ []), None)
    ∷ ((op.JoinHash 1 0), (dept_of_cities_under_standard ∷ dept_of_cities_under_standard ∷ []), None)
    ∷ []

abbrev pub probe_of_cities_under_standard : List (Op × List Props × Option Props)
probe_of_cities_under_standard =
    ((op.Probe (record { quant = record { 0 = 1 }; column = 1 } ∷ []) 1), (stored_of_cities_under_standard ∷ []), Some (record { tables = 2; cols = (0 ∷ 3 ∷ 0 ∷ 0 ∷ 0 ∷ 0 ∷ 0 ∷ 0 ∷ 0 ∷ 0 ∷ 0 ∷ 0 ∷ []); preds = 1; order = (record { quant = record { 0 = 1 }; column = 1 } ∷ []); site = record { 0 = 0 }; temp = false; path = []; card = 100; cost = 3311; rescan = 101 }))
    ∷ ((op.Probe (record { quant = record { 0 = 1 }; column = 1 } ∷ record { quant = record { 0 = 1 }; column = 0 } ∷ []) 0), (stored_of_cities_under_standard ∷ []), Some (record { tables = 2; cols = (0 ∷ 3 ∷ 0 ∷ 0 ∷ 0 ∷ 0 ∷ 0 ∷ 0 ∷ 0 ∷ 0 ∷ 0 ∷ 0 ∷ []); preds = 0; order = (record { quant = record { 0 = 1 }; column = 1 } ∷ record { quant = record { 0 = 1 }; column = 0 } ∷ []); site = record { 0 = 0 }; temp = false; path = []; card = 1000; cost = 4211; rescan = 1001 }))
    ∷ ((op.Probe [] 1), (stored_of_cities_under_standard ∷ []), None)
    ∷ ((op.Probe (record { quant = record { 0 = 1 }; column = 0 } ∷ []) 1), (stored_of_cities_under_standard ∷ []), None)
    ∷ ((op.Probe (record { quant = record { 0 = 1 }; column = 1 } ∷ record { quant = record { 0 = 1 }; column = 0 } ∷ record { quant = record { 0 = 1 }; column = 1 } ∷ []) 0), (stored_of_cities_under_standard ∷ []), None)
    ∷ ((op.Probe (record { quant = record { 0 = 1 }; column = 1 } ∷ []) 0), (emp_of_cities_under_standard ∷ []), None)
    ∷ []

abbrev pub join_merge_of_cities_under_standard : List (Op × List Props × Option Props)
join_merge_of_cities_under_standard =
    ((op.JoinMerge 1 0), (sorted_of_cities_under_standard ∷ by_index_of_cities_under_standard ∷ []), Some (record { tables = 3; cols = (3 ∷ 3 ∷ 0 ∷ 0 ∷ 0 ∷ 0 ∷ 0 ∷ 0 ∷ 0 ∷ 0 ∷ 0 ∷ 0 ∷ []); preds = 1; order = (record { quant = record { 0 = 0 }; column = 0 } ∷ []); site = record { 0 = 0 }; temp = false; path = []; card = 1000; cost = 2280; rescan = 2280 }))
    ∷ ((op.JoinMerge 1 0), (by_index_of_cities_under_standard ∷ sorted_of_cities_under_standard ∷ []), Some (record { tables = 3; cols = (3 ∷ 3 ∷ 0 ∷ 0 ∷ 0 ∷ 0 ∷ 0 ∷ 0 ∷ 0 ∷ 0 ∷ 0 ∷ 0 ∷ []); preds = 1; order = (record { quant = record { 0 = 0 }; column = 0 } ∷ record { quant = record { 0 = 1 }; column = 0 } ∷ []); site = record { 0 = 0 }; temp = false; path = []; card = 1000; cost = 2280; rescan = 2280 }))
    ∷ ((op.JoinMerge 1 0), (dept_of_cities_under_standard ∷ by_index_of_cities_under_standard ∷ []), None)
    ∷ ((op.JoinMerge 1 0), (sorted_of_cities_under_standard ∷ emp_of_cities_under_standard ∷ []), None)
    ∷ ((op.JoinMerge 0 1), (sorted_of_cities_under_standard ∷ by_index_of_cities_under_standard ∷ []), None)
    ∷ []

abbrev pub better_of_cities_under_standard : List (Props × Props × Bool)
better_of_cities_under_standard =
    (by_index_of_cities_under_standard, by_index_of_cities_under_standard, true)
    ∷ ((record by_index_of_cities_under_standard { cost = 1 }), by_index_of_cities_under_standard, true)
    ∷ (by_index_of_cities_under_standard, (record by_index_of_cities_under_standard { cost = 1 }), false)
    ∷ ((record by_index_of_cities_under_standard { rescan = 1 }), by_index_of_cities_under_standard, true)
    ∷ (by_index_of_cities_under_standard, (record by_index_of_cities_under_standard { rescan = 1 }), false)
    ∷ ((record by_index_of_cities_under_standard { cost = 1 }), (record by_index_of_cities_under_standard { rescan = 1 }), false)
    ∷ (by_index_of_cities_under_standard, (record by_index_of_cities_under_standard { order = (record { quant = record { 0 = 1 }; column = 1 } ∷ []) }), true)
    ∷ (by_index_of_cities_under_standard, (record by_index_of_cities_under_standard { order = (record { quant = record { 0 = 1 }; column = 0 } ∷ []) }), false)
    ∷ ((record by_index_of_cities_under_standard { order = (record { quant = record { 0 = 1 }; column = 1 } ∷ []) }), by_index_of_cities_under_standard, false)
    ∷ (stored_of_cities_under_standard, (record stored_of_cities_under_standard { path = (record { quant = record { 0 = 1 }; column = 1 } ∷ []) }), true)
    ∷ ((record stored_of_cities_under_standard { path = (record { quant = record { 0 = 1 }; column = 1 } ∷ []) }), stored_of_cities_under_standard, false)
    ∷ (stored_of_cities_under_standard, (record stored_of_cities_under_standard { path = (record { quant = record { 0 = 1 }; column = 0 } ∷ []) }), false)
    ∷ (stored_of_cities_under_standard, (record stored_of_cities_under_standard { temp = false; path = [] }), true)
    ∷ ((record stored_of_cities_under_standard { temp = false }), stored_of_cities_under_standard, false)
    ∷ ((record stored_of_cities_under_standard { tables = 1 }), stored_of_cities_under_standard, false)
    ∷ ((record stored_of_cities_under_standard { cols = (0 ∷ 2 ∷ 0 ∷ 0 ∷ 0 ∷ 0 ∷ 0 ∷ 0 ∷ 0 ∷ 0 ∷ 0 ∷ 0 ∷ []) }), stored_of_cities_under_standard, false)
    ∷ ((record stored_of_cities_under_standard { preds = 1 }), stored_of_cities_under_standard, false)
    ∷ ((record stored_of_cities_under_standard { card = 1 }), stored_of_cities_under_standard, true)
    ∷ []

abbrev pub satisfies_of_cities_under_standard : List (Props × Require × Bool)
satisfies_of_cities_under_standard =
    (stored_of_cities_under_standard, record { order = []; site = None; temp = false; path = [] }, true)
    ∷ (stored_of_cities_under_standard, record { order = (record { quant = record { 0 = 1 }; column = 1 } ∷ []); site = Some (record { 0 = 0 }); temp = true; path = (record { quant = record { 0 = 1 }; column = 1 } ∷ []) }, true)
    ∷ (stored_of_cities_under_standard, record { order = (record { quant = record { 0 = 1 }; column = 1 } ∷ record { quant = record { 0 = 1 }; column = 0 } ∷ []); site = None; temp = false; path = (record { quant = record { 0 = 1 }; column = 1 } ∷ record { quant = record { 0 = 1 }; column = 0 } ∷ []) }, true)
    ∷ (stored_of_cities_under_standard, record { order = (record { quant = record { 0 = 1 }; column = 0 } ∷ []); site = None; temp = false; path = [] }, false)
    ∷ (stored_of_cities_under_standard, record { order = []; site = None; temp = false; path = (record { quant = record { 0 = 1 }; column = 0 } ∷ []) }, false)
    ∷ (emp_of_cities_under_standard, record { order = (record { quant = record { 0 = 1 }; column = 1 } ∷ []); site = None; temp = false; path = [] }, false)
    ∷ (emp_of_cities_under_standard, record { order = []; site = None; temp = true; path = [] }, false)
    ∷ (emp_of_cities_under_standard, record { order = []; site = None; temp = false; path = (record { quant = record { 0 = 1 }; column = 1 } ∷ []) }, false)
    ∷ []

abbrev pub target_of_cities_under_standard : List (ℕ × ℕ × Props × Bool)
target_of_cities_under_standard =
    (2, 0, emp_of_cities_under_standard, true)
    ∷ (2, 1, emp_of_cities_under_standard, false)
    ∷ (2, 1, pushed_of_cities_under_standard, true)
    ∷ (2, 0, (record emp_of_cities_under_standard { cols = (0 ∷ 2 ∷ 0 ∷ 0 ∷ 0 ∷ 0 ∷ 0 ∷ 0 ∷ 0 ∷ 0 ∷ 0 ∷ 0 ∷ []) }), false)
    ∷ (2, 0, (record emp_of_cities_under_standard { tables = 1 }), false)
    ∷ (2, 0, (record emp_of_cities_under_standard { preds = 1 }), false)
    ∷ (2, 0, (record emp_of_cities_under_standard { order = (record { quant = record { 0 = 1 }; column = 1 } ∷ []); temp = true; path = (record { quant = record { 0 = 1 }; column = 0 } ∷ []); cost = 1; card = 1 }), true)
    ∷ []

abbrev pub chain_of_cities_under_standard : List (Require × List GlueOp × Bool)
chain_of_cities_under_standard =
    (record { order = []; site = None; temp = false; path = [] }, [], true)
    ∷ (record { order = (record { quant = record { 0 = 1 }; column = 1 } ∷ []); site = None; temp = false; path = [] }, [], true)
    ∷ (record { order = (record { quant = record { 0 = 1 }; column = 1 } ∷ []); site = None; temp = false; path = [] }, (glue.Sort ∷ []), true)
    ∷ (record { order = (record { quant = record { 0 = 1 }; column = 1 } ∷ []); site = None; temp = false; path = [] }, (glue.Sort ∷ glue.Sort ∷ []), false)
    ∷ (record { order = (record { quant = record { 0 = 1 }; column = 1 } ∷ []); site = None; temp = false; path = [] }, (glue.Store ∷ []), false)
    ∷ (record { order = (record { quant = record { 0 = 1 }; column = 1 } ∷ []); site = Some (record { 0 = 0 }); temp = true; path = [] }, (glue.Sort ∷ glue.Ship ∷ glue.Store ∷ []), true)
    ∷ (record { order = (record { quant = record { 0 = 1 }; column = 1 } ∷ []); site = Some (record { 0 = 0 }); temp = true; path = [] }, (glue.Store ∷ glue.Ship ∷ glue.Sort ∷ []), true)
    ∷ (record { order = (record { quant = record { 0 = 1 }; column = 1 } ∷ []); site = Some (record { 0 = 0 }); temp = true; path = [] }, (glue.Ship ∷ glue.Store ∷ glue.Ship ∷ []), false)
    ∷ (record { order = []; site = None; temp = false; path = (record { quant = record { 0 = 1 }; column = 1 } ∷ []) }, (glue.Store ∷ []), true)
    ∷ (record { order = []; site = None; temp = false; path = (record { quant = record { 0 = 1 }; column = 1 } ∷ []) }, (glue.Ship ∷ []), false)
    ∷ []

abbrev pub card_of_cities_under_standard : List (ℕ × ℕ × ℕ)
card_of_cities_under_standard =
    (1, 0, 10)
    ∷ (2, 1, 100)
    ∷ (3, 0, 10000)
    ∷ (3, 1, 1000)
    ∷ []

abbrev pub access_index_of_names_of_department_under_standard : List (Op × List Props × Option Props)
access_index_of_names_of_department_under_standard =
    ((op.AccessIndex 1 0 1), [], Some (by_index_of_names_of_department_under_standard))
    ∷ []

abbrev pub filter_of_names_of_department_under_standard : List (Op × List Props × Option Props)
filter_of_names_of_department_under_standard =
    ((op.Filter 1), (by_index_of_names_of_department_under_standard ∷ []), Some (record { tables = 1; cols = (2 ∷ 0 ∷ 0 ∷ 0 ∷ 0 ∷ 0 ∷ 0 ∷ 0 ∷ 0 ∷ 0 ∷ 0 ∷ 0 ∷ []); preds = 1; order = (record { quant = record { 0 = 0 }; column = 1 } ∷ record { quant = record { 0 = 0 }; column = 0 } ∷ []); site = record { 0 = 0 }; temp = false; path = []; card = 100; cost = 230; rescan = 230 }))
    ∷ []

abbrev pub get_of_names_of_department_under_standard : List (Op × List Props × Option Props)
get_of_names_of_department_under_standard =
    ((op.Get 1 1), (by_index_of_names_of_department_under_standard ∷ []), Some (record { tables = 1; cols = (6 ∷ 0 ∷ 0 ∷ 0 ∷ 0 ∷ 0 ∷ 0 ∷ 0 ∷ 0 ∷ 0 ∷ 0 ∷ 0 ∷ []); preds = 1; order = (record { quant = record { 0 = 0 }; column = 1 } ∷ record { quant = record { 0 = 0 }; column = 0 } ∷ []); site = record { 0 = 0 }; temp = false; path = []; card = 100; cost = 1230; rescan = 1230 }))
    ∷ []

abbrev pub sort_of_names_of_department_under_standard : List (Op × List Props × Option Props)
sort_of_names_of_department_under_standard =
    ((op.Sort (record { quant = record { 0 = 0 }; column = 1 } ∷ [])), (by_index_of_names_of_department_under_standard ∷ []), Some (record { tables = 1; cols = (2 ∷ 0 ∷ 0 ∷ 0 ∷ 0 ∷ 0 ∷ 0 ∷ 0 ∷ 0 ∷ 0 ∷ 0 ∷ 0 ∷ []); preds = 1; order = (record { quant = record { 0 = 0 }; column = 1 } ∷ []); site = record { 0 = 0 }; temp = false; path = []; card = 100; cost = 530; rescan = 530 }))
    ∷ ((op.Sort (record { quant = record { 0 = 0 }; column = 2 } ∷ [])), (by_index_of_names_of_department_under_standard ∷ []), None)
    ∷ []

abbrev pub join_nl_of_names_of_department_under_standard : List (Op × List Props × Option Props)
join_nl_of_names_of_department_under_standard =
    ((op.JoinNl 0), (by_index_of_names_of_department_under_standard ∷ by_index_of_names_of_department_under_standard ∷ []), None)
    ∷ []

abbrev pub join_hash_of_names_of_department_under_standard : List (Op × List Props × Option Props)
join_hash_of_names_of_department_under_standard =
    ((op.JoinHash 1 0), (by_index_of_names_of_department_under_standard ∷ by_index_of_names_of_department_under_standard ∷ []), None)
    ∷ []

abbrev pub card_of_names_of_department_under_standard : List (ℕ × ℕ × ℕ)
card_of_names_of_department_under_standard =
    (1, 1, 100)
    ∷ []

abbrev pub access_heap_of_french_orders_under_standard : List (Op × List Props × Option Props)
access_heap_of_french_orders_under_standard =
    ((op.AccessHeap 1 0), [], Some (customers_of_french_orders_under_standard))
    ∷ ((op.AccessHeap 2 2), [], Some (nations_of_french_orders_under_standard))
    ∷ ((op.AccessHeap 4 8), [], Some (orders_of_french_orders_under_standard))
    ∷ ((op.AccessHeap 8 0), [], Some (lines_of_french_orders_under_standard))
    ∷ ((op.AccessHeap 4 0), [], Some (all_orders_of_french_orders_under_standard))
    ∷ ((op.AccessHeap 1 1), [], Some (record { tables = 1; cols = (7 ∷ 0 ∷ 0 ∷ 0 ∷ 0 ∷ 0 ∷ 0 ∷ 0 ∷ 0 ∷ 0 ∷ 0 ∷ 0 ∷ []); preds = 1; order = []; site = record { 0 = 0 }; temp = false; path = []; card = 6000; cost = 186000; rescan = 186000 }))
    ∷ ((op.AccessHeap 1 2), [], None)
    ∷ ((op.AccessHeap 4 12), [], Some (record { tables = 4; cols = (0 ∷ 0 ∷ 7 ∷ 0 ∷ 0 ∷ 0 ∷ 0 ∷ 0 ∷ 0 ∷ 0 ∷ 0 ∷ 0 ∷ []); preds = 12; order = []; site = record { 0 = 1 }; temp = false; path = []; card = 4; cost = 3260000; rescan = 3260000 }))
    ∷ []

abbrev pub ship_of_french_orders_under_standard : List (Op × List Props × Option Props)
ship_of_french_orders_under_standard =
    ((op.Ship (record { 0 = 0 })), (orders_of_french_orders_under_standard ∷ []), Some (shipped_of_french_orders_under_standard))
    ∷ ((op.Ship (record { 0 = 0 })), (keyed_of_french_orders_under_standard ∷ []), Some (keyed_shipped_of_french_orders_under_standard))
    ∷ ((op.Ship (record { 0 = 0 })), (all_orders_of_french_orders_under_standard ∷ []), Some (all_shipped_of_french_orders_under_standard))
    ∷ ((op.Ship (record { 0 = 1 })), (customers_of_french_orders_under_standard ∷ []), Some (record { tables = 1; cols = (7 ∷ 0 ∷ 0 ∷ 0 ∷ 0 ∷ 0 ∷ 0 ∷ 0 ∷ 0 ∷ 0 ∷ 0 ∷ 0 ∷ []); preds = 0; order = []; site = record { 0 = 1 }; temp = false; path = []; card = 150000; cost = 37086000; rescan = 37086000 }))
    ∷ ((op.Ship (record { 0 = 1 })), (shipped_of_french_orders_under_standard ∷ []), Some (record { tables = 4; cols = (0 ∷ 0 ∷ 7 ∷ 0 ∷ 0 ∷ 0 ∷ 0 ∷ 0 ∷ 0 ∷ 0 ∷ 0 ∷ 0 ∷ []); preds = 8; order = []; site = record { 0 = 1 }; temp = false; path = []; card = 500000; cost = 147260000; rescan = 147260000 }))
    ∷ ((op.Ship (record { 0 = 1 })), (parts_of_french_orders_under_standard ∷ []), Some (record { tables = 16; cols = (0 ∷ 0 ∷ 0 ∷ 0 ∷ 1 ∷ 0 ∷ 0 ∷ 0 ∷ 0 ∷ 0 ∷ 0 ∷ 0 ∷ []); preds = 0; order = (record { quant = record { 0 = 4 }; column = 0 } ∷ []); site = record { 0 = 1 }; temp = false; path = []; card = 200000; cost = 9804410; rescan = 9804410 }))
    ∷ []

abbrev pub access_index_of_french_orders_under_standard : List (Op × List Props × Option Props)
access_index_of_french_orders_under_standard =
    ((op.AccessIndex 4 1 0), [], Some (keyed_of_french_orders_under_standard))
    ∷ ((op.AccessIndex 4 1 4), [], Some (pushed_of_french_orders_under_standard))
    ∷ ((op.AccessIndex 8 2 16), [], Some (of_order_of_french_orders_under_standard))
    ∷ ((op.AccessIndex 16 3 0), [], Some (parts_of_french_orders_under_standard))
    ∷ ((op.AccessIndex 4 1 8), [], None)
    ∷ ((op.AccessIndex 4 0 0), [], None)
    ∷ ((op.AccessIndex 1 0 5), [], Some (record { tables = 1; cols = (3 ∷ 0 ∷ 0 ∷ 0 ∷ 0 ∷ 0 ∷ 0 ∷ 0 ∷ 0 ∷ 0 ∷ 0 ∷ 0 ∷ []); preds = 5; order = (record { quant = record { 0 = 0 }; column = 1 } ∷ record { quant = record { 0 = 0 }; column = 0 } ∷ []); site = record { 0 = 0 }; temp = false; path = []; card = 1; cost = 12; rescan = 12 }))
    ∷ []

abbrev pub get_of_french_orders_under_standard : List (Op × List Props × Option Props)
get_of_french_orders_under_standard =
    ((op.Get 4 8), (keyed_of_french_orders_under_standard ∷ []), Some (record { tables = 4; cols = (0 ∷ 0 ∷ 7 ∷ 0 ∷ 0 ∷ 0 ∷ 0 ∷ 0 ∷ 0 ∷ 0 ∷ 0 ∷ 0 ∷ []); preds = 8; order = (record { quant = record { 0 = 2 }; column = 1 } ∷ []); site = record { 0 = 1 }; temp = false; path = []; card = 500000; cost = 21033010; rescan = 21033010 }))
    ∷ ((op.Get 4 8), (keyed_shipped_of_french_orders_under_standard ∷ []), None)
    ∷ []

abbrev pub filter_of_french_orders_under_standard : List (Op × List Props × Option Props)
filter_of_french_orders_under_standard =
    ((op.Filter 16), (customers_of_french_orders_under_standard ∷ []), None)
    ∷ ((op.Filter 8), (keyed_of_french_orders_under_standard ∷ []), None)
    ∷ ((op.Filter 20), (orders_of_french_orders_under_standard ∷ []), Some (record { tables = 4; cols = (0 ∷ 0 ∷ 7 ∷ 0 ∷ 0 ∷ 0 ∷ 0 ∷ 0 ∷ 0 ∷ 0 ∷ 0 ∷ 0 ∷ []); preds = 28; order = []; site = record { 0 = 1 }; temp = false; path = []; card = 1; cost = 5260000; rescan = 5260000 }))
    ∷ []

abbrev pub sort_of_french_orders_under_standard : List (Op × List Props × Option Props)
sort_of_french_orders_under_standard =
    ((op.Sort (record { quant = record { 0 = 3 }; column = 0 } ∷ [])), (lines_of_french_orders_under_standard ∷ []), Some (record { tables = 8; cols = (0 ∷ 0 ∷ 0 ∷ 7 ∷ 0 ∷ 0 ∷ 0 ∷ 0 ∷ 0 ∷ 0 ∷ 0 ∷ 0 ∷ []); preds = 0; order = (record { quant = record { 0 = 3 }; column = 0 } ∷ []); site = record { 0 = 1 }; temp = false; path = []; card = 6000000; cost = 61100000; rescan = 61100000 }))
    ∷ []

abbrev pub store_of_french_orders_under_standard : List (Op × List Props × Option Props)
store_of_french_orders_under_standard =
    ((op.Store (record { quant = record { 0 = 3 }; column = 0 } ∷ [])), (lines_of_french_orders_under_standard ∷ []), Some (record { tables = 8; cols = (0 ∷ 0 ∷ 0 ∷ 7 ∷ 0 ∷ 0 ∷ 0 ∷ 0 ∷ 0 ∷ 0 ∷ 0 ∷ 0 ∷ []); preds = 0; order = []; site = record { 0 = 1 }; temp = true; path = (record { quant = record { 0 = 3 }; column = 0 } ∷ []); card = 6000000; cost = 37100000; rescan = 12000000 }))
    ∷ []

abbrev pub join_nl_of_french_orders_under_standard : List (Op × List Props × Option Props)
join_nl_of_french_orders_under_standard =
    ((op.JoinNl 1), (customers_of_french_orders_under_standard ∷ nations_of_french_orders_under_standard ∷ []), Some (record { tables = 3; cols = (7 ∷ 3 ∷ 0 ∷ 0 ∷ 0 ∷ 0 ∷ 0 ∷ 0 ∷ 0 ∷ 0 ∷ 0 ∷ 0 ∷ []); preds = 3; order = []; site = record { 0 = 0 }; temp = false; path = []; card = 6000; cost = 5436000; rescan = 5436000 }))
    ∷ ((op.JoinNl 16), (customers_of_french_orders_under_standard ∷ nations_of_french_orders_under_standard ∷ []), None)
    ∷ ((op.JoinNl 4), (customers_of_french_orders_under_standard ∷ orders_of_french_orders_under_standard ∷ []), None)
    ∷ ((op.JoinNl 4), (customers_of_french_orders_under_standard ∷ shipped_of_french_orders_under_standard ∷ []), Some (record { tables = 5; cols = (7 ∷ 0 ∷ 7 ∷ 0 ∷ 0 ∷ 0 ∷ 0 ∷ 0 ∷ 0 ∷ 0 ∷ 0 ∷ 0 ∷ []); preds = 12; order = []; site = record { 0 = 0 }; temp = false; path = []; card = 500000; cost = 11289000186000; rescan = 11289000186000 }))
    ∷ ((op.JoinNl 16), (keyed_of_french_orders_under_standard ∷ lines_of_french_orders_under_standard ∷ []), None)
    ∷ ((op.JoinNl 16), (lines_of_french_orders_under_standard ∷ keyed_of_french_orders_under_standard ∷ []), None)
    ∷ ((op.JoinNl 0), (lines_of_french_orders_under_standard ∷ pushed_of_french_orders_under_standard ∷ []), Some (record { tables = 12; cols = (0 ∷ 0 ∷ 2 ∷ 7 ∷ 0 ∷ 0 ∷ 0 ∷ 0 ∷ 0 ∷ 0 ∷ 0 ∷ 0 ∷ []); preds = 4; order = []; site = record { 0 = 1 }; temp = false; path = []; card = 60000000; cost = 199100000; rescan = 199100000 }))
    ∷ ((op.JoinNl 16), (orders_of_french_orders_under_standard ∷ lines_of_french_orders_under_standard ∷ []), Some (record { tables = 12; cols = (0 ∷ 0 ∷ 7 ∷ 7 ∷ 0 ∷ 0 ∷ 0 ∷ 0 ∷ 0 ∷ 0 ∷ 0 ∷ 0 ∷ []); preds = 24; order = []; site = record { 0 = 1 }; temp = false; path = []; card = 2000000; cost = 6550003260000; rescan = 6550003260000 }))
    ∷ ((op.JoinNl 0), (orders_of_french_orders_under_standard ∷ of_order_of_french_orders_under_standard ∷ []), Some (record { tables = 12; cols = (0 ∷ 0 ∷ 7 ∷ 3 ∷ 0 ∷ 0 ∷ 0 ∷ 0 ∷ 0 ∷ 0 ∷ 0 ∷ 0 ∷ []); preds = 24; order = []; site = record { 0 = 1 }; temp = false; path = []; card = 2000000; cost = 12760000; rescan = 12760000 }))
    ∷ ((op.JoinNl 0), (keyed_of_french_orders_under_standard ∷ of_order_of_french_orders_under_standard ∷ []), None)
    ∷ ((op.JoinNl 0), (pushed_of_french_orders_under_standard ∷ of_order_of_french_orders_under_standard ∷ []), None)
    ∷ []

abbrev pub join_hash_of_french_orders_under_standard : List (Op × List Props × Option Props)
join_hash_of_french_orders_under_standard =
    ((op.JoinHash 1 2), (customers_of_french_orders_under_standard ∷ nations_of_french_orders_under_standard ∷ []), Some (record { tables = 3; cols = (7 ∷ 3 ∷ 0 ∷ 0 ∷ 0 ∷ 0 ∷ 0 ∷ 0 ∷ 0 ∷ 0 ∷ 0 ∷ 0 ∷ []); preds = 3; order = []; site = record { 0 = 0 }; temp = false; path = []; card = 6000; cost = 336037; rescan = 336037 }))
    ∷ ((op.JoinHash 2 1), (customers_of_french_orders_under_standard ∷ nations_of_french_orders_under_standard ∷ []), None)
    ∷ ((op.JoinHash 1 16), (customers_of_french_orders_under_standard ∷ nations_of_french_orders_under_standard ∷ []), None)
    ∷ ((op.JoinHash 5 0), (customers_of_french_orders_under_standard ∷ nations_of_french_orders_under_standard ∷ []), None)
    ∷ ((op.JoinHash 4 0), (customers_of_french_orders_under_standard ∷ orders_of_french_orders_under_standard ∷ []), None)
    ∷ ((op.JoinHash 4 8), (customers_of_french_orders_under_standard ∷ all_shipped_of_french_orders_under_standard ∷ []), Some (record { tables = 5; cols = (7 ∷ 0 ∷ 7 ∷ 0 ∷ 0 ∷ 0 ∷ 0 ∷ 0 ∷ 0 ∷ 0 ∷ 0 ∷ 0 ∷ []); preds = 12; order = []; site = record { 0 = 0 }; temp = false; path = []; card = 500000; cost = 222596000; rescan = 222596000 }))
    ∷ ((op.JoinHash 4 0), (customers_of_french_orders_under_standard ∷ shipped_of_french_orders_under_standard ∷ []), Some (record { tables = 5; cols = (7 ∷ 0 ∷ 7 ∷ 0 ∷ 0 ∷ 0 ∷ 0 ∷ 0 ∷ 0 ∷ 0 ∷ 0 ∷ 0 ∷ []); preds = 12; order = []; site = record { 0 = 0 }; temp = false; path = []; card = 500000; cost = 76596000; rescan = 76596000 }))
    ∷ ((op.JoinHash 16 0), (keyed_of_french_orders_under_standard ∷ lines_of_french_orders_under_standard ∷ []), None)
    ∷ ((op.JoinHash 16 0), (lines_of_french_orders_under_standard ∷ keyed_of_french_orders_under_standard ∷ []), None)
    ∷ ((op.JoinHash 8 0), (orders_of_french_orders_under_standard ∷ lines_of_french_orders_under_standard ∷ []), None)
    ∷ []

abbrev pub join_merge_of_french_orders_under_standard : List (Op × List Props × Option Props)
join_merge_of_french_orders_under_standard =
    ((op.JoinMerge 4 0), (customers_of_french_orders_under_standard ∷ shipped_of_french_orders_under_standard ∷ []), None)
    ∷ []

abbrev pub satisfies_of_french_orders_under_standard : List (Props × Require × Bool)
satisfies_of_french_orders_under_standard =
    (orders_of_french_orders_under_standard, record { order = []; site = Some (record { 0 = 1 }); temp = false; path = [] }, true)
    ∷ (orders_of_french_orders_under_standard, record { order = []; site = Some (record { 0 = 0 }); temp = false; path = [] }, false)
    ∷ []

abbrev pub better_of_french_orders_under_standard : List (Props × Props × Bool)
better_of_french_orders_under_standard =
    (shipped_of_french_orders_under_standard, orders_of_french_orders_under_standard, false)
    ∷ ((record shipped_of_french_orders_under_standard { cost = 1; rescan = 1 }), orders_of_french_orders_under_standard, false)
    ∷ []

abbrev pub card_of_french_orders_under_standard : List (ℕ × ℕ × ℕ)
card_of_french_orders_under_standard =
    (3, 3, 6000)
    ∷ (7, 15, 20000)
    ∷ (12, 16, 6000000)
    ∷ (4, 8, 500000)
    ∷ (5, 8, 75000000000)
    ∷ (31, 63, 80000)
    ∷ []

abbrev pub canon_of_french_orders_under_standard : List (List Col × ℕ × ℕ × List Col)
canon_of_french_orders_under_standard =
    ((record { quant = record { 0 = 1 }; column = 0 } ∷ record { quant = record { 0 = 0 }; column = 1 } ∷ record { quant = record { 0 = 0 }; column = 0 } ∷ []), 1, 3, (record { quant = record { 0 = 0 }; column = 1 } ∷ record { quant = record { 0 = 0 }; column = 0 } ∷ []))
    ∷ ((record { quant = record { 0 = 3 }; column = 0 } ∷ record { quant = record { 0 = 2 }; column = 1 } ∷ []), 28, 13, (record { quant = record { 0 = 2 }; column = 0 } ∷ record { quant = record { 0 = 0 }; column = 0 } ∷ []))
    ∷ []

abbrev pub access_heap_of_shipped_under_heaps : List (Op × List Props × Option Props)
access_heap_of_shipped_under_heaps =
    ((op.AccessHeap 1 0), [], Some (t_of_shipped_under_heaps))
    ∷ []

abbrev pub ship_of_shipped_under_heaps : List (Op × List Props × Option Props)
ship_of_shipped_under_heaps =
    ((op.Ship (record { 0 = 0 })), (t_of_shipped_under_heaps ∷ []), Some (record { tables = 1; cols = (1 ∷ 0 ∷ 0 ∷ 0 ∷ 0 ∷ 0 ∷ 0 ∷ 0 ∷ 0 ∷ 0 ∷ 0 ∷ 0 ∷ []); preds = 0; order = []; site = record { 0 = 0 }; temp = false; path = []; card = 100; cost = 2110; rescan = 2110 }))
    ∷ ((op.Ship (record { 0 = 1 })), (t_of_shipped_under_heaps ∷ []), None)
    ∷ []

abbrev pub sort_of_shipped_under_heaps : List (Op × List Props × Option Props)
sort_of_shipped_under_heaps =
    ((op.Sort (record { quant = record { 0 = 0 }; column = 0 } ∷ [])), (t_of_shipped_under_heaps ∷ []), Some (record { tables = 1; cols = (1 ∷ 0 ∷ 0 ∷ 0 ∷ 0 ∷ 0 ∷ 0 ∷ 0 ∷ 0 ∷ 0 ∷ 0 ∷ 0 ∷ []); preds = 0; order = (record { quant = record { 0 = 0 }; column = 0 } ∷ []); site = record { 0 = 1 }; temp = false; path = []; card = 100; cost = 2510; rescan = 2510 }))
    ∷ []

abbrev pub store_of_shipped_under_heaps : List (Op × List Props × Option Props)
store_of_shipped_under_heaps =
    ((op.Store []), (t_of_shipped_under_heaps ∷ []), Some (record { tables = 1; cols = (1 ∷ 0 ∷ 0 ∷ 0 ∷ 0 ∷ 0 ∷ 0 ∷ 0 ∷ 0 ∷ 0 ∷ 0 ∷ 0 ∷ []); preds = 0; order = []; site = record { 0 = 1 }; temp = true; path = []; card = 100; cost = 1510; rescan = 500 }))
    ∷ []

abbrev pub filter_of_shipped_under_heaps : List (Op × List Props × Option Props)
filter_of_shipped_under_heaps =
    ((op.Filter 0), (t_of_shipped_under_heaps ∷ []), Some (record { tables = 1; cols = (1 ∷ 0 ∷ 0 ∷ 0 ∷ 0 ∷ 0 ∷ 0 ∷ 0 ∷ 0 ∷ 0 ∷ 0 ∷ 0 ∷ []); preds = 0; order = []; site = record { 0 = 1 }; temp = false; path = []; card = 100; cost = 510; rescan = 510 }))
    ∷ []

abbrev pub access_heap_of_generated_under_variables : List (Op × List Props × Option Props)
access_heap_of_generated_under_variables =
    ((op.AccessHeap 1 0), [], Some (a_of_generated_under_variables))
    ∷ ((op.AccessHeap 2 1), [], Some (record { tables = 2; cols = (0 ∷ 3 ∷ 0 ∷ 0 ∷ 0 ∷ 0 ∷ 0 ∷ 0 ∷ 0 ∷ 0 ∷ 0 ∷ 0 ∷ []); preds = 1; order = []; site = record { 0 = 0 }; temp = false; path = []; card = 2; cost = 2004015001000001; rescan = 1000000000000016 }))
    ∷ []

abbrev pub access_index_of_generated_under_variables : List (Op × List Props × Option Props)
access_index_of_generated_under_variables =
    ((op.AccessIndex 2 1 1), [], Some (b_of_generated_under_variables))
    ∷ ((op.AccessIndex 2 1 0), [], Some (c_of_generated_under_variables))
    ∷ ((op.AccessIndex 1 0 0), [], Some (d_of_generated_under_variables))
    ∷ []

abbrev pub store_of_generated_under_variables : List (Op × List Props × Option Props)
store_of_generated_under_variables =
    ((op.Store (record { quant = record { 0 = 1 }; column = 1 } ∷ [])), (c_of_generated_under_variables ∷ []), Some (stored_of_generated_under_variables))
    ∷ ((op.Store []), (a_of_generated_under_variables ∷ []), Some (record { tables = 1; cols = (1 ∷ 0 ∷ 0 ∷ 0 ∷ 0 ∷ 0 ∷ 0 ∷ 0 ∷ 0 ∷ 0 ∷ 0 ∷ 0 ∷ []); preds = 0; order = []; site = record { 0 = 0 }; temp = true; path = []; card = 13; cost = 13000000000000001; rescan = 1000013000008008 }))
    ∷ []

abbrev pub sort_of_generated_under_variables : List (Op × List Props × Option Props)
sort_of_generated_under_variables =
    ((op.Sort (record { quant = record { 0 = 0 }; column = 0 } ∷ [])), (a_of_generated_under_variables ∷ []), Some (sorted_of_generated_under_variables))
    ∷ ((op.Sort (record { quant = record { 0 = 1 }; column = 0 } ∷ [])), (c_of_generated_under_variables ∷ []), Some (record { tables = 2; cols = (0 ∷ 3 ∷ 0 ∷ 0 ∷ 0 ∷ 0 ∷ 0 ∷ 0 ∷ 0 ∷ 0 ∷ 0 ∷ 0 ∷ []); preds = 0; order = (record { quant = record { 0 = 1 }; column = 0 } ∷ []); site = record { 0 = 0 }; temp = false; path = []; card = 15; cost = 15000000000000001; rescan = 1000015000016016 }))
    ∷ []

abbrev pub get_of_generated_under_variables : List (Op × List Props × Option Props)
get_of_generated_under_variables =
    ((op.Get 1 0), (d_of_generated_under_variables ∷ []), Some (record { tables = 1; cols = (1 ∷ 0 ∷ 0 ∷ 0 ∷ 0 ∷ 0 ∷ 0 ∷ 0 ∷ 0 ∷ 0 ∷ 0 ∷ 0 ∷ []); preds = 0; order = (record { quant = record { 0 = 0 }; column = 1 } ∷ record { quant = record { 0 = 0 }; column = 0 } ∷ []); site = record { 0 = 0 }; temp = false; path = []; card = 13; cost = 13003013000000001; rescan = 1000013000008008 }))
    ∷ ((op.Get 2 1), (c_of_generated_under_variables ∷ []), Some (record { tables = 2; cols = (0 ∷ 3 ∷ 0 ∷ 0 ∷ 0 ∷ 0 ∷ 0 ∷ 0 ∷ 0 ∷ 0 ∷ 0 ∷ 0 ∷ []); preds = 1; order = (record { quant = record { 0 = 1 }; column = 1 } ∷ record { quant = record { 0 = 1 }; column = 0 } ∷ []); site = record { 0 = 0 }; temp = false; path = []; card = 2; cost = 2004015001000001; rescan = 1000015000016016 }))
    ∷ []

abbrev pub filter_of_generated_under_variables : List (Op × List Props × Option Props)
filter_of_generated_under_variables =
    ((op.Filter 1), (c_of_generated_under_variables ∷ []), Some (record { tables = 2; cols = (0 ∷ 3 ∷ 0 ∷ 0 ∷ 0 ∷ 0 ∷ 0 ∷ 0 ∷ 0 ∷ 0 ∷ 0 ∷ 0 ∷ []); preds = 1; order = (record { quant = record { 0 = 1 }; column = 1 } ∷ record { quant = record { 0 = 1 }; column = 0 } ∷ []); site = record { 0 = 0 }; temp = false; path = []; card = 2; cost = 2000000001000001; rescan = 1000015000016016 }))
    ∷ []

abbrev pub probe_of_generated_under_variables : List (Op × List Props × Option Props)
probe_of_generated_under_variables =
    ((op.Probe (record { quant = record { 0 = 1 }; column = 1 } ∷ []) 1), (stored_of_generated_under_variables ∷ []), Some (record { tables = 2; cols = (0 ∷ 3 ∷ 0 ∷ 0 ∷ 0 ∷ 0 ∷ 0 ∷ 0 ∷ 0 ∷ 0 ∷ 0 ∷ 0 ∷ []); preds = 1; order = (record { quant = record { 0 = 1 }; column = 1 } ∷ []); site = record { 0 = 0 }; temp = false; path = []; card = 2; cost = 2000000001000001; rescan = 1000015000016016 }))
    ∷ []

abbrev pub join_nl_of_generated_under_variables : List (Op × List Props × Option Props)
join_nl_of_generated_under_variables =
    ((op.JoinNl 0), (a_of_generated_under_variables ∷ b_of_generated_under_variables ∷ []), Some (record { tables = 3; cols = (1 ∷ 3 ∷ 0 ∷ 0 ∷ 0 ∷ 0 ∷ 0 ∷ 0 ∷ 0 ∷ 0 ∷ 0 ∷ 0 ∷ []); preds = 1; order = []; site = record { 0 = 0 }; temp = false; path = []; card = 15; cost = 15000000000000001; rescan = 1002013016008024 }))
    ∷ ((op.JoinNl 1), (a_of_generated_under_variables ∷ c_of_generated_under_variables ∷ []), Some (record { tables = 3; cols = (1 ∷ 3 ∷ 0 ∷ 0 ∷ 0 ∷ 0 ∷ 0 ∷ 0 ∷ 0 ∷ 0 ∷ 0 ∷ 0 ∷ []); preds = 1; order = []; site = record { 0 = 0 }; temp = false; path = []; card = 15; cost = 15000000001000001; rescan = 1015013016008024 }))
    ∷ ((op.JoinNl 1), (c_of_generated_under_variables ∷ a_of_generated_under_variables ∷ []), Some (record { tables = 3; cols = (1 ∷ 3 ∷ 0 ∷ 0 ∷ 0 ∷ 0 ∷ 0 ∷ 0 ∷ 0 ∷ 0 ∷ 0 ∷ 0 ∷ []); preds = 1; order = (record { quant = record { 0 = 0 }; column = 0 } ∷ record { quant = record { 0 = 1 }; column = 0 } ∷ []); site = record { 0 = 0 }; temp = false; path = []; card = 15; cost = 15000000001000001; rescan = 1013015008016024 }))
    ∷ []

abbrev pub join_merge_of_generated_under_variables : List (Op × List Props × Option Props)
join_merge_of_generated_under_variables =
    ((op.JoinMerge 1 0), (sorted_of_generated_under_variables ∷ c_of_generated_under_variables ∷ []), Some (record { tables = 3; cols = (1 ∷ 3 ∷ 0 ∷ 0 ∷ 0 ∷ 0 ∷ 0 ∷ 0 ∷ 0 ∷ 0 ∷ 0 ∷ 0 ∷ []); preds = 1; order = (record { quant = record { 0 = 0 }; column = 0 } ∷ []); site = record { 0 = 0 }; temp = false; path = []; card = 15; cost = 15000000001000001; rescan = 1015013016008024 }))
    ∷ []

abbrev pub join_hash_of_generated_under_variables : List (Op × List Props × Option Props)
join_hash_of_generated_under_variables =
    ((op.JoinHash 1 0), (a_of_generated_under_variables ∷ c_of_generated_under_variables ∷ []), Some (record { tables = 3; cols = (1 ∷ 3 ∷ 0 ∷ 0 ∷ 0 ∷ 0 ∷ 0 ∷ 0 ∷ 0 ∷ 0 ∷ 0 ∷ 0 ∷ []); preds = 1; order = []; site = record { 0 = 0 }; temp = false; path = []; card = 15; cost = 15000000001000001; rescan = 1015013016008024 }))
    ∷ ((op.JoinHash 1 0), (c_of_generated_under_variables ∷ d_of_generated_under_variables ∷ []), Some (record { tables = 3; cols = (1 ∷ 3 ∷ 0 ∷ 0 ∷ 0 ∷ 0 ∷ 0 ∷ 0 ∷ 0 ∷ 0 ∷ 0 ∷ 0 ∷ []); preds = 1; order = []; site = record { 0 = 0 }; temp = false; path = []; card = 15; cost = 15000000001000001; rescan = 1013015008016024 }))
    ∷ []

abbrev pub access_heap_of_french_orders_under_variables : List (Op × List Props × Option Props)
access_heap_of_french_orders_under_variables =
    ((op.AccessHeap 1 0), [], Some (customers_of_french_orders_under_variables))
    ∷ ((op.AccessHeap 4 0), [], Some (orders_of_french_orders_under_variables))
    ∷ []

abbrev pub ship_of_french_orders_under_variables : List (Op × List Props × Option Props)
ship_of_french_orders_under_variables =
    ((op.Ship (record { 0 = 0 })), (orders_of_french_orders_under_variables ∷ []), Some (shipped_of_french_orders_under_variables))
    ∷ []

abbrev pub sort_of_french_orders_under_variables : List (Op × List Props × Option Props)
sort_of_french_orders_under_variables =
    ((op.Sort (record { quant = record { 0 = 2 }; column = 1 } ∷ [])), (shipped_of_french_orders_under_variables ∷ []), Some (sorted_of_french_orders_under_variables))
    ∷ ((op.Sort (record { quant = record { 0 = 0 }; column = 0 } ∷ [])), (keyed_of_french_orders_under_variables ∷ []), Some (by_key_of_french_orders_under_variables))
    ∷ []

abbrev pub access_index_of_french_orders_under_variables : List (Op × List Props × Option Props)
access_index_of_french_orders_under_variables =
    ((op.AccessIndex 1 0 0), [], Some (keyed_of_french_orders_under_variables))
    ∷ []

abbrev pub join_hash_of_french_orders_under_variables : List (Op × List Props × Option Props)
join_hash_of_french_orders_under_variables =
    ((op.JoinHash 4 8), (customers_of_french_orders_under_variables ∷ shipped_of_french_orders_under_variables ∷ []), Some (record { tables = 5; cols = (7 ∷ 0 ∷ 7 ∷ 0 ∷ 0 ∷ 0 ∷ 0 ∷ 0 ∷ 0 ∷ 0 ∷ 0 ∷ 0 ∷ []); preds = 12; order = []; site = record { 0 = 0 }; temp = false; path = []; card = 500000; cost = 1000000000000000000; rescan = 1000000000000000000 }))
    ∷ ((op.JoinHash 4 12), (shipped_of_french_orders_under_variables ∷ customers_of_french_orders_under_variables ∷ []), Some (record { tables = 5; cols = (7 ∷ 0 ∷ 7 ∷ 0 ∷ 0 ∷ 0 ∷ 0 ∷ 0 ∷ 0 ∷ 0 ∷ 0 ∷ 0 ∷ []); preds = 12; order = []; site = record { 0 = 0 }; temp = false; path = []; card = 500000; cost = 1000000000000000000; rescan = 152500000041024065 }))
    ∷ []

abbrev pub join_merge_of_french_orders_under_variables : List (Op × List Props × Option Props)
join_merge_of_french_orders_under_variables =
    ((op.JoinMerge 4 8), (by_key_of_french_orders_under_variables ∷ sorted_of_french_orders_under_variables ∷ []), Some (record { tables = 5; cols = (3 ∷ 0 ∷ 7 ∷ 0 ∷ 0 ∷ 0 ∷ 0 ∷ 0 ∷ 0 ∷ 0 ∷ 0 ∷ 0 ∷ []); preds = 12; order = (record { quant = record { 0 = 0 }; column = 0 } ∷ []); site = record { 0 = 0 }; temp = false; path = []; card = 500000; cost = 1000000000000000000; rescan = 1000000000000000000 }))
    ∷ []

abbrev pub join_nl_of_french_orders_under_variables : List (Op × List Props × Option Props)
join_nl_of_french_orders_under_variables =
    ((op.JoinNl 12), (customers_of_french_orders_under_variables ∷ shipped_of_french_orders_under_variables ∷ []), Some (record { tables = 5; cols = (7 ∷ 0 ∷ 7 ∷ 0 ∷ 0 ∷ 0 ∷ 0 ∷ 0 ∷ 0 ∷ 0 ∷ 0 ∷ 0 ∷ []); preds = 12; order = []; site = record { 0 = 0 }; temp = false; path = []; card = 500000; cost = 1000000000000000000; rescan = 1000000000000000000 }))
    ∷ []

abbrev pub access_heap_of_shipped_under_variables : List (Op × List Props × Option Props)
access_heap_of_shipped_under_variables =
    ((op.AccessHeap 1 0), [], Some (t_of_shipped_under_variables))
    ∷ []

abbrev pub ship_of_shipped_under_variables : List (Op × List Props × Option Props)
ship_of_shipped_under_variables =
    ((op.Ship (record { 0 = 0 })), (t_of_shipped_under_variables ∷ []), Some (near_of_shipped_under_variables))
    ∷ ((op.Ship (record { 0 = 1 })), (near_of_shipped_under_variables ∷ []), Some (record { tables = 1; cols = (1 ∷ 0 ∷ 0 ∷ 0 ∷ 0 ∷ 0 ∷ 0 ∷ 0 ∷ 0 ∷ 0 ∷ 0 ∷ 0 ∷ []); preds = 0; order = []; site = record { 0 = 1 }; temp = false; path = []; card = 100; cost = 100000000000002001; rescan = 1000100000008008 }))
    ∷ []

abbrev pub sort_of_shipped_under_variables : List (Op × List Props × Option Props)
sort_of_shipped_under_variables =
    ((op.Sort (record { quant = record { 0 = 0 }; column = 0 } ∷ [])), (t_of_shipped_under_variables ∷ []), Some (record { tables = 1; cols = (1 ∷ 0 ∷ 0 ∷ 0 ∷ 0 ∷ 0 ∷ 0 ∷ 0 ∷ 0 ∷ 0 ∷ 0 ∷ 0 ∷ []); preds = 0; order = (record { quant = record { 0 = 0 }; column = 0 } ∷ []); site = record { 0 = 1 }; temp = false; path = []; card = 100; cost = 100000000000000005; rescan = 1000100000008008 }))
    ∷ ((op.Sort (record { quant = record { 0 = 0 }; column = 0 } ∷ [])), (near_of_shipped_under_variables ∷ []), Some (record { tables = 1; cols = (1 ∷ 0 ∷ 0 ∷ 0 ∷ 0 ∷ 0 ∷ 0 ∷ 0 ∷ 0 ∷ 0 ∷ 0 ∷ 0 ∷ []); preds = 0; order = (record { quant = record { 0 = 0 }; column = 0 } ∷ []); site = record { 0 = 0 }; temp = false; path = []; card = 100; cost = 100000000000000001; rescan = 1000100000008008 }))
    ∷ []

abbrev pub store_of_shipped_under_variables : List (Op × List Props × Option Props)
store_of_shipped_under_variables =
    ((op.Store []), (near_of_shipped_under_variables ∷ []), Some (record { tables = 1; cols = (1 ∷ 0 ∷ 0 ∷ 0 ∷ 0 ∷ 0 ∷ 0 ∷ 0 ∷ 0 ∷ 0 ∷ 0 ∷ 0 ∷ []); preds = 0; order = []; site = record { 0 = 0 }; temp = true; path = []; card = 100; cost = 100000000000000001; rescan = 1000100000008008 }))
    ∷ []

abbrev pub filter_of_shipped_under_variables : List (Op × List Props × Option Props)
filter_of_shipped_under_variables =
    ((op.Filter 0), (near_of_shipped_under_variables ∷ []), Some (record { tables = 1; cols = (1 ∷ 0 ∷ 0 ∷ 0 ∷ 0 ∷ 0 ∷ 0 ∷ 0 ∷ 0 ∷ 0 ∷ 0 ∷ 0 ∷ []); preds = 0; order = []; site = record { 0 = 0 }; temp = false; path = []; card = 100; cost = 100000000000000001; rescan = 1000100000008008 }))
    ∷ []

abbrev pub access_heap_of_two_tables_under_variables : List (Op × List Props × Option Props)
access_heap_of_two_tables_under_variables =
    ((op.AccessHeap 1 0), [], Some (n_of_two_tables_under_variables))
    ∷ []

abbrev pub ship_of_two_tables_under_variables : List (Op × List Props × Option Props)
ship_of_two_tables_under_variables =
    ((op.Ship (record { 0 = 1 })), (n_of_two_tables_under_variables ∷ []), Some (record { tables = 1; cols = (3 ∷ 0 ∷ 0 ∷ 0 ∷ 0 ∷ 0 ∷ 0 ∷ 0 ∷ 0 ∷ 0 ∷ 0 ∷ 0 ∷ []); preds = 0; order = []; site = record { 0 = 1 }; temp = false; path = []; card = 25; cost = 25000000000006001; rescan = 1000025000033033 }))
    ∷ []

abbrev pub join_nl_of_two_tables_under_variables : List (Op × List Props × Option Props)
join_nl_of_two_tables_under_variables =
    ((op.JoinNl 0), (n_of_two_tables_under_variables ∷ n_of_two_tables_under_variables ∷ []), None)
    ∷ []

abbrev pub access_heap_of_compared_under_standard : List (Op × List Props × Option Props)
access_heap_of_compared_under_standard =
    ((op.AccessHeap 1 0), [], Some (e_of_compared_under_standard))
    ∷ ((op.AccessHeap 2 0), [], Some (f_of_compared_under_standard))
    ∷ []

abbrev pub card_of_compared_under_standard : List (ℕ × ℕ × ℕ)
card_of_compared_under_standard =
    (1, 1, 1000)
    ∷ (1, 2, 334)
    ∷ (1, 4, 334)
    ∷ (1, 8, 334)
    ∷ (1, 16, 334)
    ∷ (1, 32, 100)
    ∷ (1, 256, 1)
    ∷ (1, 34, 34)
    ∷ (3, 64, 1000000)
    ∷ (3, 128, 100000)
    ∷ (3, 160, 10000)
    ∷ (2, 192, 100)
    ∷ []

abbrev pub join_hash_of_compared_under_standard : List (Op × List Props × Option Props)
join_hash_of_compared_under_standard =
    ((op.JoinHash 64 0), (e_of_compared_under_standard ∷ f_of_compared_under_standard ∷ []), None)
    ∷ ((op.JoinHash 128 64), (e_of_compared_under_standard ∷ f_of_compared_under_standard ∷ []), Some (record { tables = 3; cols = (7 ∷ 3 ∷ 0 ∷ 0 ∷ 0 ∷ 0 ∷ 0 ∷ 0 ∷ 0 ∷ 0 ∷ 0 ∷ 0 ∷ []); preds = 192; order = []; site = record { 0 = 0 }; temp = false; path = []; card = 100000; cost = 7000; rescan = 7000 }))
    ∷ ((op.JoinHash 32 0), (e_of_compared_under_standard ∷ f_of_compared_under_standard ∷ []), None)
    ∷ ((op.JoinHash 130 0), (e_of_compared_under_standard ∷ f_of_compared_under_standard ∷ []), None)
    ∷ []

abbrev pub canon_of_compared_under_standard : List (List Col × ℕ × ℕ × List Col)
canon_of_compared_under_standard =
    ((record { quant = record { 0 = 1 }; column = 0 } ∷ record { quant = record { 0 = 1 }; column = 1 } ∷ record { quant = record { 0 = 0 }; column = 0 } ∷ record { quant = record { 0 = 0 }; column = 1 } ∷ []), 511, 3, (record { quant = record { 0 = 1 }; column = 0 } ∷ record { quant = record { 0 = 0 }; column = 1 } ∷ record { quant = record { 0 = 0 }; column = 0 } ∷ []))
    ∷ ((record { quant = record { 0 = 1 }; column = 1 } ∷ record { quant = record { 0 = 1 }; column = 0 } ∷ []), 64, 3, (record { quant = record { 0 = 1 }; column = 1 } ∷ record { quant = record { 0 = 1 }; column = 0 } ∷ []))
    ∷ []

abbrev pub join_merge_of_words_by_both_under_merge : List (Op × List Props × Option Props)
join_merge_of_words_by_both_under_merge =
    ((op.JoinMerge 1 0), (l_of_words_by_both_under_merge ∷ r_of_words_by_both_under_merge ∷ []), Some (merged_of_words_by_both_under_merge))
    ∷ ((op.JoinMerge 1 0), (r_of_words_by_both_under_merge ∷ l_of_words_by_both_under_merge ∷ []), Some (merged_of_words_by_both_under_merge))
    ∷ []

abbrev pub sort_of_words_by_both_under_merge : List (Op × List Props × Option Props)
sort_of_words_by_both_under_merge =
    ((op.Sort (record { quant = record { 0 = 1 }; column = 0 } ∷ record { quant = record { 0 = 0 }; column = 0 } ∷ record { quant = record { 0 = 1 }; column = 1 } ∷ [])), (merged_of_words_by_both_under_merge ∷ []), Some (record { tables = 3; cols = (1 ∷ 3 ∷ 0 ∷ 0 ∷ 0 ∷ 0 ∷ 0 ∷ 0 ∷ 0 ∷ 0 ∷ 0 ∷ 0 ∷ []); preds = 1; order = (record { quant = record { 0 = 0 }; column = 0 } ∷ record { quant = record { 0 = 1 }; column = 1 } ∷ []); site = record { 0 = 0 }; temp = false; path = []; card = 6; cost = 74; rescan = 74 }))
    ∷ []

abbrev pub canon_of_words_by_both_under_merge : List (List Col × ℕ × ℕ × List Col)
canon_of_words_by_both_under_merge =
    ((record { quant = record { 0 = 1 }; column = 0 } ∷ record { quant = record { 0 = 0 }; column = 0 } ∷ record { quant = record { 0 = 1 }; column = 1 } ∷ []), 1, 3, (record { quant = record { 0 = 0 }; column = 0 } ∷ record { quant = record { 0 = 1 }; column = 1 } ∷ []))
    ∷ ((record { quant = record { 0 = 1 }; column = 0 } ∷ record { quant = record { 0 = 0 }; column = 0 } ∷ record { quant = record { 0 = 1 }; column = 1 } ∷ []), 1, 2, (record { quant = record { 0 = 1 }; column = 0 } ∷ record { quant = record { 0 = 0 }; column = 0 } ∷ record { quant = record { 0 = 1 }; column = 1 } ∷ []))
    ∷ ((record { quant = record { 0 = 1 }; column = 0 } ∷ record { quant = record { 0 = 0 }; column = 0 } ∷ record { quant = record { 0 = 1 }; column = 1 } ∷ []), 1, 1, (record { quant = record { 0 = 1 }; column = 0 } ∷ record { quant = record { 0 = 0 }; column = 0 } ∷ record { quant = record { 0 = 1 }; column = 1 } ∷ []))
    ∷ ((record { quant = record { 0 = 1 }; column = 0 } ∷ record { quant = record { 0 = 0 }; column = 0 } ∷ record { quant = record { 0 = 1 }; column = 1 } ∷ []), 0, 3, (record { quant = record { 0 = 1 }; column = 0 } ∷ record { quant = record { 0 = 0 }; column = 0 } ∷ record { quant = record { 0 = 1 }; column = 1 } ∷ []))
    ∷ ((record { quant = record { 0 = 0 }; column = 0 } ∷ record { quant = record { 0 = 1 }; column = 0 } ∷ []), 1, 3, (record { quant = record { 0 = 0 }; column = 0 } ∷ []))
    ∷ ((record { quant = record { 0 = 1 }; column = 1 } ∷ record { quant = record { 0 = 1 }; column = 0 } ∷ record { quant = record { 0 = 1 }; column = 1 } ∷ []), 0, 2, (record { quant = record { 0 = 1 }; column = 1 } ∷ record { quant = record { 0 = 1 }; column = 0 } ∷ []))
    ∷ ([], 1, 3, [])
    ∷ []

abbrev pub satisfies_of_words_by_both_under_merge : List (Props × Require × Bool)
satisfies_of_words_by_both_under_merge =
    (merged_of_words_by_both_under_merge, record { order = (record { quant = record { 0 = 0 }; column = 0 } ∷ record { quant = record { 0 = 1 }; column = 0 } ∷ []); site = None; temp = false; path = [] }, true)
    ∷ (merged_of_words_by_both_under_merge, record { order = (record { quant = record { 0 = 1 }; column = 0 } ∷ []); site = None; temp = false; path = [] }, true)
    ∷ (merged_of_words_by_both_under_merge, record { order = (record { quant = record { 0 = 1 }; column = 0 } ∷ record { quant = record { 0 = 1 }; column = 1 } ∷ []); site = None; temp = false; path = [] }, false)
    ∷ (merged_of_words_by_both_under_merge, record { order = (record { quant = record { 0 = 1 }; column = 1 } ∷ []); site = None; temp = false; path = [] }, false)
    ∷ (crossed_of_words_by_both_under_merge, record { order = (record { quant = record { 0 = 0 }; column = 0 } ∷ record { quant = record { 0 = 1 }; column = 0 } ∷ []); site = None; temp = false; path = [] }, false)
    ∷ (crossed_of_words_by_both_under_merge, record { order = (record { quant = record { 0 = 1 }; column = 0 } ∷ []); site = None; temp = false; path = [] }, false)
    ∷ []

abbrev pub canon_of_chain_under_standard : List (List Col × ℕ × ℕ × List Col)
canon_of_chain_under_standard =
    ((record { quant = record { 0 = 3 }; column = 1 } ∷ record { quant = record { 0 = 2 }; column = 1 } ∷ record { quant = record { 0 = 1 }; column = 1 } ∷ record { quant = record { 0 = 0 }; column = 1 } ∷ []), 7, 15, (record { quant = record { 0 = 0 }; column = 1 } ∷ []))
    ∷ ((record { quant = record { 0 = 3 }; column = 1 } ∷ record { quant = record { 0 = 2 }; column = 1 } ∷ record { quant = record { 0 = 1 }; column = 1 } ∷ record { quant = record { 0 = 0 }; column = 1 } ∷ []), 7, 14, (record { quant = record { 0 = 1 }; column = 1 } ∷ record { quant = record { 0 = 0 }; column = 1 } ∷ []))
    ∷ ((record { quant = record { 0 = 3 }; column = 1 } ∷ record { quant = record { 0 = 2 }; column = 1 } ∷ record { quant = record { 0 = 1 }; column = 1 } ∷ record { quant = record { 0 = 0 }; column = 1 } ∷ []), 7, 11, (record { quant = record { 0 = 3 }; column = 1 } ∷ record { quant = record { 0 = 2 }; column = 1 } ∷ record { quant = record { 0 = 0 }; column = 1 } ∷ []))
    ∷ ((record { quant = record { 0 = 3 }; column = 1 } ∷ record { quant = record { 0 = 2 }; column = 1 } ∷ record { quant = record { 0 = 1 }; column = 1 } ∷ record { quant = record { 0 = 0 }; column = 1 } ∷ []), 5, 15, (record { quant = record { 0 = 2 }; column = 1 } ∷ record { quant = record { 0 = 0 }; column = 1 } ∷ []))
    ∷ ((record { quant = record { 0 = 3 }; column = 1 } ∷ record { quant = record { 0 = 2 }; column = 1 } ∷ record { quant = record { 0 = 1 }; column = 1 } ∷ record { quant = record { 0 = 0 }; column = 1 } ∷ []), 15, 15, (record { quant = record { 0 = 0 }; column = 0 } ∷ []))
    ∷ ((record { quant = record { 0 = 0 }; column = 1 } ∷ record { quant = record { 0 = 0 }; column = 0 } ∷ []), 8, 1, (record { quant = record { 0 = 0 }; column = 0 } ∷ []))
    ∷ ((record { quant = record { 0 = 0 }; column = 1 } ∷ record { quant = record { 0 = 0 }; column = 0 } ∷ []), 8, 14, (record { quant = record { 0 = 0 }; column = 1 } ∷ record { quant = record { 0 = 0 }; column = 0 } ∷ []))
    ∷ []

abbrev pub access_index_of_own_department_under_standard : List (Op × List Props × Option Props)
access_index_of_own_department_under_standard =
    ((op.AccessIndex 1 0 0), [], Some (by_index_of_own_department_under_standard))
    ∷ ((op.AccessIndex 1 0 1), [], Some (record { tables = 1; cols = (3 ∷ 0 ∷ 0 ∷ 0 ∷ 0 ∷ 0 ∷ 0 ∷ 0 ∷ 0 ∷ 0 ∷ 0 ∷ 0 ∷ []); preds = 1; order = (record { quant = record { 0 = 0 }; column = 0 } ∷ []); site = record { 0 = 0 }; temp = false; path = []; card = 1; cost = 12; rescan = 12 }))
    ∷ []

abbrev pub filter_of_own_department_under_standard : List (Op × List Props × Option Props)
filter_of_own_department_under_standard =
    ((op.Filter 1), (by_index_of_own_department_under_standard ∷ []), Some (record { tables = 1; cols = (3 ∷ 0 ∷ 0 ∷ 0 ∷ 0 ∷ 0 ∷ 0 ∷ 0 ∷ 0 ∷ 0 ∷ 0 ∷ 0 ∷ []); preds = 1; order = (record { quant = record { 0 = 0 }; column = 0 } ∷ []); site = record { 0 = 0 }; temp = false; path = []; card = 1; cost = 2210; rescan = 2210 }))
    ∷ []

abbrev pub sort_of_own_department_under_standard : List (Op × List Props × Option Props)
sort_of_own_department_under_standard =
    ((op.Sort (record { quant = record { 0 = 0 }; column = 1 } ∷ [])), (e_of_own_department_under_standard ∷ []), Some (record { tables = 1; cols = (3 ∷ 0 ∷ 0 ∷ 0 ∷ 0 ∷ 0 ∷ 0 ∷ 0 ∷ 0 ∷ 0 ∷ 0 ∷ 0 ∷ []); preds = 1; order = (record { quant = record { 0 = 0 }; column = 0 } ∷ []); site = record { 0 = 0 }; temp = false; path = []; card = 1; cost = 2004; rescan = 2004 }))
    ∷ []

abbrev pub store_of_own_department_under_standard : List (Op × List Props × Option Props)
store_of_own_department_under_standard =
    ((op.Store (record { quant = record { 0 = 0 }; column = 1 } ∷ record { quant = record { 0 = 0 }; column = 0 } ∷ [])), (by_index_of_own_department_under_standard ∷ []), Some (stored_of_own_department_under_standard))
    ∷ []

abbrev pub probe_of_own_department_under_standard : List (Op × List Props × Option Props)
probe_of_own_department_under_standard =
    ((op.Probe (record { quant = record { 0 = 0 }; column = 1 } ∷ record { quant = record { 0 = 0 }; column = 0 } ∷ []) 1), (stored_of_own_department_under_standard ∷ []), Some (record { tables = 1; cols = (3 ∷ 0 ∷ 0 ∷ 0 ∷ 0 ∷ 0 ∷ 0 ∷ 0 ∷ 0 ∷ 0 ∷ 0 ∷ 0 ∷ []); preds = 1; order = (record { quant = record { 0 = 0 }; column = 0 } ∷ []); site = record { 0 = 0 }; temp = false; path = []; card = 1; cost = 3212; rescan = 2 }))
    ∷ []

abbrev pub canon_of_own_department_under_standard : List (List Col × ℕ × ℕ × List Col)
canon_of_own_department_under_standard =
    ((record { quant = record { 0 = 0 }; column = 1 } ∷ record { quant = record { 0 = 0 }; column = 0 } ∷ []), 1, 1, (record { quant = record { 0 = 0 }; column = 0 } ∷ []))
    ∷ ((record { quant = record { 0 = 0 }; column = 1 } ∷ record { quant = record { 0 = 0 }; column = 0 } ∷ []), 0, 1, (record { quant = record { 0 = 0 }; column = 1 } ∷ record { quant = record { 0 = 0 }; column = 0 } ∷ []))
    ∷ []

abbrev pub join_merge_of_colleagues_under_standard : List (Op × List Props × Option Props)
join_merge_of_colleagues_under_standard =
    ((op.JoinMerge 1 0), (d_of_colleagues_under_standard ∷ e_of_colleagues_under_standard ∷ []), Some (pairs_of_colleagues_under_standard))
    ∷ ((op.JoinMerge 1 0), (e_of_colleagues_under_standard ∷ d_of_colleagues_under_standard ∷ []), Some (record { tables = 3; cols = (1 ∷ 3 ∷ 0 ∷ 0 ∷ 0 ∷ 0 ∷ 0 ∷ 0 ∷ 0 ∷ 0 ∷ 0 ∷ 0 ∷ []); preds = 1; order = (record { quant = record { 0 = 0 }; column = 0 } ∷ record { quant = record { 0 = 1 }; column = 0 } ∷ []); site = record { 0 = 0 }; temp = false; path = []; card = 1000; cost = 2280; rescan = 2280 }))
    ∷ ((op.JoinMerge 2 0), (pairs_of_colleagues_under_standard ∷ f_of_colleagues_under_standard ∷ []), Some (record { tables = 7; cols = (1 ∷ 3 ∷ 2 ∷ 0 ∷ 0 ∷ 0 ∷ 0 ∷ 0 ∷ 0 ∷ 0 ∷ 0 ∷ 0 ∷ []); preds = 3; order = (record { quant = record { 0 = 0 }; column = 0 } ∷ []); site = record { 0 = 0 }; temp = false; path = []; card = 100000; cost = 5490; rescan = 5490 }))
    ∷ ((op.JoinMerge 2 0), (f_of_colleagues_under_standard ∷ pairs_of_colleagues_under_standard ∷ []), Some (record { tables = 7; cols = (1 ∷ 3 ∷ 2 ∷ 0 ∷ 0 ∷ 0 ∷ 0 ∷ 0 ∷ 0 ∷ 0 ∷ 0 ∷ 0 ∷ []); preds = 3; order = (record { quant = record { 0 = 0 }; column = 0 } ∷ record { quant = record { 0 = 2 }; column = 0 } ∷ []); site = record { 0 = 0 }; temp = false; path = []; card = 100000; cost = 5490; rescan = 5490 }))
    ∷ ((op.JoinMerge 2 0), ((record pairs_of_colleagues_under_standard { order = (record { quant = record { 0 = 1 }; column = 1 } ∷ []) }) ∷ f_of_colleagues_under_standard ∷ []), None)
    ∷ []

abbrev pub satisfies_of_colleagues_under_standard : List (Props × Require × Bool)
satisfies_of_colleagues_under_standard =
    (pairs_of_colleagues_under_standard, record { order = (record { quant = record { 0 = 1 }; column = 1 } ∷ []); site = None; temp = false; path = [] }, true)
    ∷ []

abbrev pub canon_of_colleagues_under_standard : List (List Col × ℕ × ℕ × List Col)
canon_of_colleagues_under_standard =
    ((record { quant = record { 0 = 2 }; column = 1 } ∷ record { quant = record { 0 = 1 }; column = 1 } ∷ record { quant = record { 0 = 0 }; column = 0 } ∷ []), 3, 7, (record { quant = record { 0 = 0 }; column = 0 } ∷ []))
    ∷ ((record { quant = record { 0 = 2 }; column = 1 } ∷ record { quant = record { 0 = 0 }; column = 0 } ∷ []), 2, 7, (record { quant = record { 0 = 1 }; column = 1 } ∷ record { quant = record { 0 = 0 }; column = 0 } ∷ []))
    ∷ []

abbrev pub access_index_of_two_indexes_under_intersect : List (Op × List Props × Option Props)
access_index_of_two_indexes_under_intersect =
    ((op.AccessIndex 1 0 1), [], Some (by_a_of_two_indexes_under_intersect))
    ∷ ((op.AccessIndex 1 1 2), [], Some (by_b_of_two_indexes_under_intersect))
    ∷ []

abbrev pub intersect_of_two_indexes_under_intersect : List (Op × List Props × Option Props)
intersect_of_two_indexes_under_intersect =
    ((op.Intersect), (by_a_of_two_indexes_under_intersect ∷ by_b_of_two_indexes_under_intersect ∷ []), Some (both_of_two_indexes_under_intersect))
    ∷ ((op.Intersect), (by_b_of_two_indexes_under_intersect ∷ by_a_of_two_indexes_under_intersect ∷ []), Some ((record both_of_two_indexes_under_intersect { order = (record { quant = record { 0 = 0 }; column = 2 } ∷ []) })))
    ∷ ((op.Intersect), (by_a_of_two_indexes_under_intersect ∷ by_a_of_two_indexes_under_intersect ∷ []), Some ((record by_a_of_two_indexes_under_intersect { cost = 440; rescan = 440 })))
    ∷ ((op.Intersect), (by_a_of_two_indexes_under_intersect ∷ both_of_two_indexes_under_intersect ∷ []), Some ((record both_of_two_indexes_under_intersect { cost = 560; rescan = 560 })))
    ∷ []

abbrev pub get_of_two_indexes_under_intersect : List (Op × List Props × Option Props)
get_of_two_indexes_under_intersect =
    ((op.Get 1 0), (both_of_two_indexes_under_intersect ∷ []), Some (record { tables = 1; cols = (7 ∷ 0 ∷ 0 ∷ 0 ∷ 0 ∷ 0 ∷ 0 ∷ 0 ∷ 0 ∷ 0 ∷ 0 ∷ 0 ∷ []); preds = 3; order = (record { quant = record { 0 = 0 }; column = 1 } ∷ []); site = record { 0 = 0 }; temp = false; path = []; card = 5; cost = 385; rescan = 385 }))
    ∷ []

abbrev pub access_heap_of_cities_under_intersect : List (Op × List Props × Option Props)
access_heap_of_cities_under_intersect =
    ((op.AccessHeap 1 0), [], Some (dept_of_cities_under_intersect))
    ∷ ((op.AccessHeap 2 0), [], Some (emp_of_cities_under_intersect))
    ∷ []

abbrev pub intersect_of_cities_under_intersect : List (Op × List Props × Option Props)
intersect_of_cities_under_intersect =
    ((op.Intersect), (dept_of_cities_under_intersect ∷ emp_of_cities_under_intersect ∷ []), None)
    ∷ ((op.Intersect), (dept_of_cities_under_intersect ∷ joined_of_cities_under_intersect ∷ []), None)
    ∷ ((op.Intersect), (joined_of_cities_under_intersect ∷ joined_of_cities_under_intersect ∷ []), None)
    ∷ ((op.Intersect), (emp_of_cities_under_intersect ∷ pushed_of_cities_under_intersect ∷ []), Some (record { tables = 2; cols = (0 ∷ 3 ∷ 0 ∷ 0 ∷ 0 ∷ 0 ∷ 0 ∷ 0 ∷ 0 ∷ 0 ∷ 0 ∷ 0 ∷ []); preds = 1; order = []; site = record { 0 = 0 }; temp = false; path = []; card = 100; cost = 3230; rescan = 3230 }))
    ∷ ((op.Intersect), (pushed_of_cities_under_intersect ∷ emp_of_cities_under_intersect ∷ []), Some (record { tables = 2; cols = (0 ∷ 3 ∷ 0 ∷ 0 ∷ 0 ∷ 0 ∷ 0 ∷ 0 ∷ 0 ∷ 0 ∷ 0 ∷ 0 ∷ []); preds = 1; order = (record { quant = record { 0 = 1 }; column = 1 } ∷ record { quant = record { 0 = 1 }; column = 0 } ∷ []); site = record { 0 = 0 }; temp = false; path = []; card = 100; cost = 3230; rescan = 3230 }))
    ∷ ((op.Intersect), (pushed_of_cities_under_intersect ∷ (record pushed_of_cities_under_intersect { temp = true; path = (record { quant = record { 0 = 1 }; column = 1 } ∷ []) }) ∷ []), Some ((record pushed_of_cities_under_intersect { cost = 460; rescan = 460 })))
    ∷ []
