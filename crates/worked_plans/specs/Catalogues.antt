-- Written by tools/worked_plans.
-- The catalogues of the worked plans.
use Rattle.std.specs.Prelude.{[], ◌∷◌, codes}
use Rattle.star_model.specs.declared.catalogue.ColType.TheVariants as type
use Rattle.star_model.specs.declared.catalogue.Catalogue.{Catalogue}

abbrev pub employees : Catalogue
employees = record {
  sites = (record { name = codes "hq"; cpu = 1; net = 1 } ∷ []);
  tables = (record { name = codes "emp"; site = record { 0 = 0 }; rows = 1000; pages = 100; file = codes "emp.csv"; columns = (record { name = codes "id"; kind = type.Int; width = 8; distinct = 1000 } ∷ record { name = codes "dno"; kind = type.Int; width = 8; distinct = 10 } ∷ record { name = codes "name"; kind = type.Text; width = 20; distinct = 1000 } ∷ []) } ∷ []);
  indexes = (record { name = codes "emp_dno"; table = 0; columns = (1 ∷ 0 ∷ []); pages = 20 } ∷ []);
}

abbrev pub generated : Catalogue
generated = record {
  sites = (record { name = codes "hq"; cpu = 1; net = 1 } ∷ []);
  tables = (record { name = codes "t1"; site = record { 0 = 0 }; rows = 13; pages = 3; file = codes "t1.csv"; columns = (record { name = codes "id"; kind = type.Int; width = 8; distinct = 13 } ∷ record { name = codes "prev"; kind = type.Int; width = 8; distinct = 1 } ∷ []) } ∷ record { name = codes "t2"; site = record { 0 = 0 }; rows = 15; pages = 4; file = codes "t2.csv"; columns = (record { name = codes "id"; kind = type.Int; width = 8; distinct = 15 } ∷ record { name = codes "prev"; kind = type.Int; width = 8; distinct = 13 } ∷ []) } ∷ []);
  indexes = (record { name = codes "x1"; table = 0; columns = (1 ∷ 0 ∷ []); pages = 1 } ∷ record { name = codes "x2"; table = 1; columns = (1 ∷ 0 ∷ []); pages = 1 } ∷ []);
}

abbrev pub large : Catalogue
large = record {
  sites = (record { name = codes "a"; cpu = 1; net = 1 } ∷ []);
  tables = (record { name = codes "t"; site = record { 0 = 0 }; rows = 1000000000; pages = 1000000; file = codes "t.csv"; columns = (record { name = codes "k"; kind = type.Int; width = 8; distinct = 1000000000 } ∷ []) } ∷ []);
  indexes = [];
}

abbrev pub named : Catalogue
named = record {
  sites = (record { name = codes "a"; cpu = 1; net = 1 } ∷ []);
  tables = (record { name = codes "t"; site = record { 0 = 0 }; rows = 1; pages = 1; file = codes "t.csv"; columns = (record { name = codes "k"; kind = type.Text; width = 10; distinct = 1 } ∷ record { name = codes "n"; kind = type.Int; width = 8; distinct = 1 } ∷ []) } ∷ []);
  indexes = [];
}

abbrev pub numbers : Catalogue
numbers = record {
  sites = (record { name = codes "a"; cpu = 1; net = 1 } ∷ []);
  tables = (record { name = codes "t"; site = record { 0 = 0 }; rows = 3; pages = 1; file = codes "t.csv"; columns = (record { name = codes "k"; kind = type.Int; width = 8; distinct = 2 } ∷ []) } ∷ []);
  indexes = [];
}

abbrev pub orders : Catalogue
orders = record {
  sites = (record { name = codes "hq"; cpu = 1; net = 3 } ∷ record { name = codes "branch"; cpu = 2; net = 3 } ∷ []);
  tables = (record { name = codes "nation"; site = record { 0 = 0 }; rows = 25; pages = 1; file = codes "nation.csv"; columns = (record { name = codes "n_id"; kind = type.Int; width = 8; distinct = 25 } ∷ record { name = codes "n_name"; kind = type.Text; width = 25; distinct = 25 } ∷ []) } ∷ record { name = codes "customer"; site = record { 0 = 0 }; rows = 150000; pages = 3600; file = codes "customer.csv"; columns = (record { name = codes "c_id"; kind = type.Int; width = 8; distinct = 150000 } ∷ record { name = codes "c_nation"; kind = type.Int; width = 8; distinct = 25 } ∷ record { name = codes "c_name"; kind = type.Text; width = 25; distinct = 150000 } ∷ []) } ∷ record { name = codes "orders"; site = record { 0 = 1 }; rows = 1500000; pages = 26000; file = codes "orders.csv"; columns = (record { name = codes "o_id"; kind = type.Int; width = 8; distinct = 1500000 } ∷ record { name = codes "o_cust"; kind = type.Int; width = 8; distinct = 100000 } ∷ record { name = codes "o_date"; kind = type.Int; width = 8; distinct = 2400 } ∷ []) } ∷ record { name = codes "line"; site = record { 0 = 1 }; rows = 6000000; pages = 110000; file = codes "line.csv"; columns = (record { name = codes "l_order"; kind = type.Int; width = 8; distinct = 1500000 } ∷ record { name = codes "l_part"; kind = type.Int; width = 8; distinct = 200000 } ∷ record { name = codes "l_qty"; kind = type.Int; width = 8; distinct = 50 } ∷ []) } ∷ record { name = codes "part"; site = record { 0 = 0 }; rows = 200000; pages = 4000; file = codes "part.csv"; columns = (record { name = codes "p_id"; kind = type.Int; width = 8; distinct = 200000 } ∷ record { name = codes "p_name"; kind = type.Text; width = 55; distinct = 200000 } ∷ []) } ∷ []);
  indexes = (record { name = codes "customer_nation"; table = 1; columns = (1 ∷ 0 ∷ []); pages = 400 } ∷ record { name = codes "orders_cust"; table = 2; columns = (1 ∷ []); pages = 3300 } ∷ record { name = codes "line_order"; table = 3; columns = (0 ∷ 1 ∷ []); pages = 15000 } ∷ record { name = codes "part_id"; table = 4; columns = (0 ∷ []); pages = 440 } ∷ []);
}

abbrev pub staff : Catalogue
staff = record {
  sites = (record { name = codes "hq"; cpu = 1; net = 1 } ∷ []);
  tables = (record { name = codes "emp"; site = record { 0 = 0 }; rows = 1000; pages = 100; file = codes "emp.csv"; columns = (record { name = codes "id"; kind = type.Int; width = 8; distinct = 1000 } ∷ record { name = codes "dno"; kind = type.Int; width = 8; distinct = 10 } ∷ record { name = codes "name"; kind = type.Text; width = 20; distinct = 1000 } ∷ []) } ∷ record { name = codes "dept"; site = record { 0 = 0 }; rows = 10; pages = 1; file = codes "dept.csv"; columns = (record { name = codes "id"; kind = type.Int; width = 8; distinct = 10 } ∷ record { name = codes "city"; kind = type.Text; width = 12; distinct = 5 } ∷ []) } ∷ []);
  indexes = (record { name = codes "emp_dno"; table = 0; columns = (1 ∷ 0 ∷ []); pages = 20 } ∷ []);
}

abbrev pub t : Catalogue
t = record {
  sites = (record { name = codes "hq"; cpu = 1; net = 1 } ∷ []);
  tables = (record { name = codes "t"; site = record { 0 = 0 }; rows = 0; pages = 0; file = codes "t.csv"; columns = (record { name = codes "a"; kind = type.Int; width = 8; distinct = 0 } ∷ []) } ∷ []);
  indexes = [];
}

abbrev pub t_filled : Catalogue
t_filled = record {
  sites = (record { name = codes "hq"; cpu = 1; net = 1 } ∷ []);
  tables = (record { name = codes "t"; site = record { 0 = 0 }; rows = 1000; pages = 50; file = codes "t.csv"; columns = (record { name = codes "a"; kind = type.Int; width = 8; distinct = 0 } ∷ []) } ∷ []);
  indexes = [];
}

abbrev pub two_indexes : Catalogue
two_indexes = record {
  sites = (record { name = codes "hq"; cpu = 1; net = 1 } ∷ []);
  tables = (record { name = codes "p"; site = record { 0 = 0 }; rows = 1000; pages = 100; file = codes "p.csv"; columns = (record { name = codes "id"; kind = type.Int; width = 8; distinct = 1000 } ∷ record { name = codes "a"; kind = type.Int; width = 8; distinct = 10 } ∷ record { name = codes "b"; kind = type.Int; width = 8; distinct = 20 } ∷ []) } ∷ []);
  indexes = (record { name = codes "pa"; table = 0; columns = (1 ∷ []); pages = 10 } ∷ record { name = codes "pb"; table = 0; columns = (2 ∷ []); pages = 10 } ∷ []);
}

abbrev pub two_sites : Catalogue
two_sites = record {
  sites = (record { name = codes "a"; cpu = 1; net = 1 } ∷ record { name = codes "b"; cpu = 5; net = 1 } ∷ []);
  tables = (record { name = codes "t"; site = record { 0 = 1 }; rows = 100; pages = 1; file = codes "t.csv"; columns = (record { name = codes "k"; kind = type.Int; width = 8; distinct = 100 } ∷ []) } ∷ []);
  indexes = [];
}

abbrev pub two_sites_exchanged : Catalogue
two_sites_exchanged = record {
  sites = (record { name = codes "a"; cpu = 5; net = 1 } ∷ record { name = codes "b"; cpu = 1; net = 1 } ∷ []);
  tables = (record { name = codes "t"; site = record { 0 = 1 }; rows = 100; pages = 1; file = codes "t.csv"; columns = (record { name = codes "k"; kind = type.Int; width = 8; distinct = 100 } ∷ []) } ∷ []);
  indexes = [];
}

abbrev pub words : Catalogue
words = record {
  sites = (record { name = codes "a"; cpu = 1; net = 1 } ∷ []);
  tables = (record { name = codes "l"; site = record { 0 = 0 }; rows = 2; pages = 1; file = codes "l.csv"; columns = (record { name = codes "k"; kind = type.Text; width = 10; distinct = 1 } ∷ []) } ∷ record { name = codes "r"; site = record { 0 = 0 }; rows = 3; pages = 1; file = codes "r.csv"; columns = (record { name = codes "k"; kind = type.Text; width = 10; distinct = 1 } ∷ record { name = codes "n"; kind = type.Int; width = 8; distinct = 3 } ∷ []) } ∷ []);
  indexes = [];
}
