-- Written by tools/worked_texts.
use Rattle.std.proofs.Common.{refl, [], ◌∷◌, codes}
use Rattle.catalogue.specs.Catalogues.{Site, Table, Index}
use Rattle.star_model.specs.declared.catalogue.ColType.TheVariants as type
use Rattle.spelling.specs.Lexemes.{statements_in}
use Rattle.sb_text.specs.Tokens.{lexed}
use Rattle.sb_text.specs.Tokens.{lexed_after}
use Rattle.catalogue.specs.Catalogues.{catalogue_of}
use Rattle.worked_texts.proofs.texts.catalogue_orders.Goals as goal

pub returns : goal.returns
unfolding statements_in lexed lexed_after catalogue_of
returns c = record { statements = (Site (record { name = codes "hq"; cpu = 1; net = 3 }) ∷ Site (record { name = codes "branch"; cpu = 2; net = 3 }) ∷ Table (record { name = codes "nation"; site = codes "hq"; rows = 25; pages = 1; file = codes "nation.csv"; columns = (record { name = codes "n_id"; kind = type.Int; width = 8; distinct = 25 } ∷ record { name = codes "n_name"; kind = type.Text; width = 25; distinct = 25 } ∷ []) }) ∷ Table (record { name = codes "customer"; site = codes "hq"; rows = 150000; pages = 3600; file = codes "customer.csv"; columns = (record { name = codes "c_id"; kind = type.Int; width = 8; distinct = 150000 } ∷ record { name = codes "c_nation"; kind = type.Int; width = 8; distinct = 25 } ∷ record { name = codes "c_name"; kind = type.Text; width = 25; distinct = 150000 } ∷ []) }) ∷ Table (record { name = codes "orders"; site = codes "branch"; rows = 1500000; pages = 26000; file = codes "orders.csv"; columns = (record { name = codes "o_id"; kind = type.Int; width = 8; distinct = 1500000 } ∷ record { name = codes "o_cust"; kind = type.Int; width = 8; distinct = 100000 } ∷ record { name = codes "o_date"; kind = type.Int; width = 8; distinct = 2400 } ∷ []) }) ∷ Table (record { name = codes "line"; site = codes "branch"; rows = 6000000; pages = 110000; file = codes "line.csv"; columns = (record { name = codes "l_order"; kind = type.Int; width = 8; distinct = 1500000 } ∷ record { name = codes "l_part"; kind = type.Int; width = 8; distinct = 200000 } ∷ record { name = codes "l_qty"; kind = type.Int; width = 8; distinct = 50 } ∷ []) }) ∷ Table (record { name = codes "part"; site = codes "hq"; rows = 200000; pages = 4000; file = codes "part.csv"; columns = (record { name = codes "p_id"; kind = type.Int; width = 8; distinct = 200000 } ∷ record { name = codes "p_name"; kind = type.Text; width = 55; distinct = 200000 } ∷ []) }) ∷ Index (record { name = codes "customer_nation"; table = codes "customer"; columns = (codes "c_nation" ∷ codes "c_id" ∷ []); pages = 400 }) ∷ Index (record { name = codes "orders_cust"; table = codes "orders"; columns = (codes "o_cust" ∷ []); pages = 3300 }) ∷ Index (record { name = codes "line_order"; table = codes "line"; columns = (codes "l_order" ∷ codes "l_part" ∷ []); pages = 15000 }) ∷ Index (record { name = codes "part_id"; table = codes "part"; columns = (codes "p_id" ∷ []); pages = 440 }) ∷ []); are = record { all_tokens = refl; are = refl }; columns = (tt, (tt, (tt, (tt, (tt, (tt, (tt, (tt, (tt, (tt, (tt, tt))))))))))); means = refl }
