-- Written by tools/worked_plans.
-- The queries of the worked plans.
use Rattle.std.specs.Prelude.{[], ◌∷◌, Some, None, codes, pos, neg_ℤ}
use Rattle.star_model.specs.declared.catalogue.Value.TheVariants as constant
use Rattle.star_model.specs.declared.query.Query.{Query}
use Rattle.star_model.specs.declared.query.Cmp.TheVariants as cmp
use Rattle.star_model.specs.declared.query.Operand.TheVariants as operand
use Rattle.worked_plans.specs.Catalogues as catalogue

abbrev pub all_employees : Query
all_employees = record {
  catalogue = catalogue.staff;
  quants = (record { name = codes "e"; table = 0 } ∷ []);
  select = (record { quant = record { 0 = 0 }; column = 0 } ∷ []);
  preds = [];
  order = [];
  site = None;
}

abbrev pub chain : Query
chain = record {
  catalogue = catalogue.staff;
  quants = (record { name = codes "a"; table = 0 } ∷ record { name = codes "b"; table = 0 } ∷ record { name = codes "c"; table = 0 } ∷ record { name = codes "d"; table = 0 } ∷ []);
  select = (record { quant = record { 0 = 3 }; column = 0 } ∷ []);
  preds = (record { left = record { quant = record { 0 = 3 }; column = 1 }; cmp = cmp.Eq; right = operand.Column (record { quant = record { 0 = 2 }; column = 1 }); num = 1; den = 10 } ∷ record { left = record { quant = record { 0 = 2 }; column = 1 }; cmp = cmp.Eq; right = operand.Column (record { quant = record { 0 = 1 }; column = 1 }); num = 1; den = 10 } ∷ record { left = record { quant = record { 0 = 1 }; column = 1 }; cmp = cmp.Eq; right = operand.Column (record { quant = record { 0 = 0 }; column = 1 }); num = 1; den = 10 } ∷ record { left = record { quant = record { 0 = 0 }; column = 1 }; cmp = cmp.Eq; right = operand.Column (record { quant = record { 0 = 0 }; column = 0 }); num = 1; den = 1000 } ∷ []);
  order = [];
  site = None;
}

abbrev pub cities : Query
cities = record {
  catalogue = catalogue.staff;
  quants = (record { name = codes "d"; table = 1 } ∷ record { name = codes "e"; table = 0 } ∷ []);
  select = (record { quant = record { 0 = 1 }; column = 0 } ∷ record { quant = record { 0 = 0 }; column = 1 } ∷ []);
  preds = (record { left = record { quant = record { 0 = 1 }; column = 1 }; cmp = cmp.Eq; right = operand.Column (record { quant = record { 0 = 0 }; column = 0 }); num = 1; den = 10 } ∷ []);
  order = [];
  site = None;
}

abbrev pub colleagues : Query
colleagues = record {
  catalogue = catalogue.staff;
  quants = (record { name = codes "d"; table = 1 } ∷ record { name = codes "e"; table = 0 } ∷ record { name = codes "f"; table = 0 } ∷ []);
  select = (record { quant = record { 0 = 1 }; column = 0 } ∷ []);
  preds = (record { left = record { quant = record { 0 = 1 }; column = 1 }; cmp = cmp.Eq; right = operand.Column (record { quant = record { 0 = 0 }; column = 0 }); num = 1; den = 10 } ∷ record { left = record { quant = record { 0 = 2 }; column = 1 }; cmp = cmp.Eq; right = operand.Column (record { quant = record { 0 = 1 }; column = 1 }); num = 1; den = 10 } ∷ []);
  order = [];
  site = None;
}

abbrev pub compared : Query
compared = record {
  catalogue = catalogue.staff;
  quants = (record { name = codes "e"; table = 0 } ∷ record { name = codes "f"; table = 0 } ∷ []);
  select = (record { quant = record { 0 = 0 }; column = 0 } ∷ record { quant = record { 0 = 1 }; column = 0 } ∷ []);
  preds = (record { left = record { quant = record { 0 = 0 }; column = 1 }; cmp = cmp.Ne; right = operand.Constant (constant.Int (pos 3)); num = 1; den = 1 } ∷ record { left = record { quant = record { 0 = 0 }; column = 1 }; cmp = cmp.Lt; right = operand.Constant (constant.Int (pos 4)); num = 1; den = 3 } ∷ record { left = record { quant = record { 0 = 0 }; column = 1 }; cmp = cmp.Le; right = operand.Constant (constant.Int (pos 5)); num = 1; den = 3 } ∷ record { left = record { quant = record { 0 = 0 }; column = 1 }; cmp = cmp.Gt; right = operand.Constant (constant.Int (pos 1)); num = 1; den = 3 } ∷ record { left = record { quant = record { 0 = 0 }; column = 1 }; cmp = cmp.Ge; right = operand.Constant (constant.Int (neg_ℤ (pos 2))); num = 1; den = 3 } ∷ record { left = record { quant = record { 0 = 0 }; column = 1 }; cmp = cmp.Eq; right = operand.Constant (constant.Int (pos 3)); num = 1; den = 10 } ∷ record { left = record { quant = record { 0 = 0 }; column = 0 }; cmp = cmp.Ne; right = operand.Column (record { quant = record { 0 = 1 }; column = 0 }); num = 1; den = 1 } ∷ record { left = record { quant = record { 0 = 0 }; column = 1 }; cmp = cmp.Eq; right = operand.Column (record { quant = record { 0 = 1 }; column = 1 }); num = 1; den = 10 } ∷ record { left = record { quant = record { 0 = 0 }; column = 2 }; cmp = cmp.Eq; right = operand.Constant (constant.Text (codes "O'Hara")); num = 1; den = 1000 } ∷ []);
  order = [];
  site = None;
}

abbrev pub cross_product : Query
cross_product = record {
  catalogue = catalogue.staff;
  quants = (record { name = codes "d"; table = 1 } ∷ record { name = codes "e"; table = 0 } ∷ []);
  select = (record { quant = record { 0 = 0 }; column = 0 } ∷ record { quant = record { 0 = 1 }; column = 0 } ∷ []);
  preds = [];
  order = [];
  site = None;
}

abbrev pub eight : Query
eight = record {
  catalogue = catalogue.large;
  quants = (record { name = codes "a"; table = 0 } ∷ record { name = codes "b"; table = 0 } ∷ record { name = codes "c"; table = 0 } ∷ record { name = codes "d"; table = 0 } ∷ record { name = codes "e"; table = 0 } ∷ record { name = codes "f"; table = 0 } ∷ record { name = codes "g"; table = 0 } ∷ record { name = codes "h"; table = 0 } ∷ []);
  select = (record { quant = record { 0 = 0 }; column = 0 } ∷ []);
  preds = [];
  order = [];
  site = None;
}

abbrev pub french_orders : Query
french_orders = record {
  catalogue = catalogue.orders;
  quants = (record { name = codes "c"; table = 1 } ∷ record { name = codes "n"; table = 0 } ∷ record { name = codes "o"; table = 2 } ∷ record { name = codes "l"; table = 3 } ∷ record { name = codes "p"; table = 4 } ∷ []);
  select = (record { quant = record { 0 = 0 }; column = 2 } ∷ record { quant = record { 0 = 2 }; column = 0 } ∷ record { quant = record { 0 = 4 }; column = 1 } ∷ record { quant = record { 0 = 3 }; column = 2 } ∷ []);
  preds = (record { left = record { quant = record { 0 = 0 }; column = 1 }; cmp = cmp.Eq; right = operand.Column (record { quant = record { 0 = 1 }; column = 0 }); num = 1; den = 25 } ∷ record { left = record { quant = record { 0 = 1 }; column = 1 }; cmp = cmp.Eq; right = operand.Constant (constant.Text (codes "FRANCE")); num = 1; den = 25 } ∷ record { left = record { quant = record { 0 = 2 }; column = 1 }; cmp = cmp.Eq; right = operand.Column (record { quant = record { 0 = 0 }; column = 0 }); num = 1; den = 150000 } ∷ record { left = record { quant = record { 0 = 2 }; column = 2 }; cmp = cmp.Ge; right = operand.Constant (constant.Int (pos 19940101)); num = 1; den = 3 } ∷ record { left = record { quant = record { 0 = 3 }; column = 0 }; cmp = cmp.Eq; right = operand.Column (record { quant = record { 0 = 2 }; column = 0 }); num = 1; den = 1500000 } ∷ record { left = record { quant = record { 0 = 3 }; column = 1 }; cmp = cmp.Eq; right = operand.Column (record { quant = record { 0 = 4 }; column = 0 }); num = 1; den = 200000 } ∷ []);
  order = (record { quant = record { 0 = 2 }; column = 0 } ∷ record { quant = record { 0 = 4 }; column = 1 } ∷ []);
  site = Some (record { 0 = 0 });
}

abbrev pub generated : Query
generated = record {
  catalogue = catalogue.generated;
  quants = (record { name = codes "q1"; table = 0 } ∷ record { name = codes "q2"; table = 1 } ∷ []);
  select = (record { quant = record { 0 = 0 }; column = 0 } ∷ record { quant = record { 0 = 1 }; column = 0 } ∷ []);
  preds = (record { left = record { quant = record { 0 = 1 }; column = 1 }; cmp = cmp.Eq; right = operand.Column (record { quant = record { 0 = 0 }; column = 0 }); num = 1; den = 13 } ∷ []);
  order = (record { quant = record { 0 = 1 }; column = 0 } ∷ []);
  site = None;
}

abbrev pub ids_by_department : Query
ids_by_department = record {
  catalogue = catalogue.employees;
  quants = (record { name = codes "e"; table = 0 } ∷ []);
  select = (record { quant = record { 0 = 0 }; column = 0 } ∷ []);
  preds = [];
  order = (record { quant = record { 0 = 0 }; column = 1 } ∷ []);
  site = None;
}

abbrev pub ids_of_department : Query
ids_of_department = record {
  catalogue = catalogue.employees;
  quants = (record { name = codes "e"; table = 0 } ∷ []);
  select = (record { quant = record { 0 = 0 }; column = 0 } ∷ []);
  preds = (record { left = record { quant = record { 0 = 0 }; column = 1 }; cmp = cmp.Eq; right = operand.Constant (constant.Int (pos 3)); num = 1; den = 10 } ∷ []);
  order = [];
  site = None;
}

abbrev pub named : Query
named = record {
  catalogue = catalogue.named;
  quants = (record { name = codes "t"; table = 0 } ∷ []);
  select = (record { quant = record { 0 = 0 }; column = 0 } ∷ record { quant = record { 0 = 0 }; column = 1 } ∷ []);
  preds = [];
  order = [];
  site = None;
}

abbrev pub names_by_department : Query
names_by_department = record {
  catalogue = catalogue.employees;
  quants = (record { name = codes "e"; table = 0 } ∷ []);
  select = (record { quant = record { 0 = 0 }; column = 2 } ∷ []);
  preds = [];
  order = (record { quant = record { 0 = 0 }; column = 1 } ∷ []);
  site = None;
}

abbrev pub names_of_department : Query
names_of_department = record {
  catalogue = catalogue.employees;
  quants = (record { name = codes "e"; table = 0 } ∷ []);
  select = (record { quant = record { 0 = 0 }; column = 2 } ∷ []);
  preds = (record { left = record { quant = record { 0 = 0 }; column = 1 }; cmp = cmp.Eq; right = operand.Constant (constant.Int (pos 3)); num = 1; den = 10 } ∷ []);
  order = [];
  site = None;
}

abbrev pub own_department : Query
own_department = record {
  catalogue = catalogue.staff;
  quants = (record { name = codes "e"; table = 0 } ∷ []);
  select = (record { quant = record { 0 = 0 }; column = 0 } ∷ []);
  preds = (record { left = record { quant = record { 0 = 0 }; column = 0 }; cmp = cmp.Eq; right = operand.Column (record { quant = record { 0 = 0 }; column = 1 }); num = 1; den = 1000 } ∷ []);
  order = [];
  site = None;
}

abbrev pub pairs : Query
pairs = record {
  catalogue = catalogue.numbers;
  quants = (record { name = codes "x"; table = 0 } ∷ record { name = codes "y"; table = 0 } ∷ []);
  select = (record { quant = record { 0 = 0 }; column = 0 } ∷ record { quant = record { 0 = 1 }; column = 0 } ∷ []);
  preds = (record { left = record { quant = record { 0 = 0 }; column = 0 }; cmp = cmp.Eq; right = operand.Column (record { quant = record { 0 = 1 }; column = 0 }); num = 1; den = 2 } ∷ []);
  order = (record { quant = record { 0 = 0 }; column = 0 } ∷ []);
  site = None;
}

abbrev pub same_words : Query
same_words = record {
  catalogue = catalogue.words;
  quants = (record { name = codes "l"; table = 0 } ∷ record { name = codes "r"; table = 1 } ∷ []);
  select = (record { quant = record { 0 = 0 }; column = 0 } ∷ record { quant = record { 0 = 1 }; column = 1 } ∷ []);
  preds = (record { left = record { quant = record { 0 = 0 }; column = 0 }; cmp = cmp.Eq; right = operand.Column (record { quant = record { 0 = 1 }; column = 0 }); num = 1; den = 1 } ∷ []);
  order = (record { quant = record { 0 = 1 }; column = 1 } ∷ []);
  site = None;
}

abbrev pub shipped : Query
shipped = record {
  catalogue = catalogue.two_sites;
  quants = (record { name = codes "t"; table = 0 } ∷ []);
  select = (record { quant = record { 0 = 0 }; column = 0 } ∷ []);
  preds = [];
  order = (record { quant = record { 0 = 0 }; column = 0 } ∷ []);
  site = Some (record { 0 = 0 });
}

abbrev pub shipped_exchanged : Query
shipped_exchanged = record {
  catalogue = catalogue.two_sites_exchanged;
  quants = (record { name = codes "t"; table = 0 } ∷ []);
  select = (record { quant = record { 0 = 0 }; column = 0 } ∷ []);
  preds = [];
  order = (record { quant = record { 0 = 0 }; column = 0 } ∷ []);
  site = Some (record { 0 = 0 });
}

abbrev pub t : Query
t = record {
  catalogue = catalogue.t;
  quants = (record { name = codes "t"; table = 0 } ∷ []);
  select = (record { quant = record { 0 = 0 }; column = 0 } ∷ []);
  preds = [];
  order = [];
  site = None;
}

abbrev pub t_filled : Query
t_filled = record {
  catalogue = catalogue.t_filled;
  quants = (record { name = codes "t"; table = 0 } ∷ []);
  select = (record { quant = record { 0 = 0 }; column = 0 } ∷ []);
  preds = [];
  order = [];
  site = None;
}

abbrev pub twelve : Query
twelve = record {
  catalogue = catalogue.large;
  quants = (record { name = codes "a"; table = 0 } ∷ record { name = codes "b"; table = 0 } ∷ record { name = codes "c"; table = 0 } ∷ record { name = codes "d"; table = 0 } ∷ record { name = codes "e"; table = 0 } ∷ record { name = codes "f"; table = 0 } ∷ record { name = codes "g"; table = 0 } ∷ record { name = codes "h"; table = 0 } ∷ record { name = codes "i"; table = 0 } ∷ record { name = codes "j"; table = 0 } ∷ record { name = codes "k"; table = 0 } ∷ record { name = codes "l"; table = 0 } ∷ []);
  select = (record { quant = record { 0 = 0 }; column = 0 } ∷ []);
  preds = [];
  order = [];
  site = None;
}

abbrev pub two_indexes : Query
two_indexes = record {
  catalogue = catalogue.two_indexes;
  quants = (record { name = codes "p"; table = 0 } ∷ []);
  select = (record { quant = record { 0 = 0 }; column = 0 } ∷ []);
  preds = (record { left = record { quant = record { 0 = 0 }; column = 1 }; cmp = cmp.Eq; right = operand.Constant (constant.Int (pos 1)); num = 1; den = 10 } ∷ record { left = record { quant = record { 0 = 0 }; column = 2 }; cmp = cmp.Eq; right = operand.Constant (constant.Int (pos 2)); num = 1; den = 20 } ∷ []);
  order = [];
  site = None;
}

abbrev pub two_tables : Query
two_tables = record {
  catalogue = catalogue.orders;
  quants = (record { name = codes "n"; table = 0 } ∷ record { name = codes "c"; table = 1 } ∷ []);
  select = (record { quant = record { 0 = 0 }; column = 1 } ∷ record { quant = record { 0 = 1 }; column = 2 } ∷ []);
  preds = (record { left = record { quant = record { 0 = 1 }; column = 1 }; cmp = cmp.Eq; right = operand.Column (record { quant = record { 0 = 0 }; column = 0 }); num = 1; den = 25 } ∷ []);
  order = [];
  site = Some (record { 0 = 0 });
}

abbrev pub unshipped : Query
unshipped = record {
  catalogue = catalogue.two_sites;
  quants = (record { name = codes "t"; table = 0 } ∷ []);
  select = (record { quant = record { 0 = 0 }; column = 0 } ∷ []);
  preds = [];
  order = [];
  site = None;
}

abbrev pub words_by_both : Query
words_by_both = record {
  catalogue = catalogue.words;
  quants = (record { name = codes "l"; table = 0 } ∷ record { name = codes "r"; table = 1 } ∷ []);
  select = (record { quant = record { 0 = 0 }; column = 0 } ∷ record { quant = record { 0 = 1 }; column = 1 } ∷ []);
  preds = (record { left = record { quant = record { 0 = 0 }; column = 0 }; cmp = cmp.Eq; right = operand.Column (record { quant = record { 0 = 1 }; column = 0 }); num = 1; den = 1 } ∷ []);
  order = (record { quant = record { 0 = 0 }; column = 0 } ∷ record { quant = record { 0 = 1 }; column = 0 } ∷ []);
  site = None;
}
