-- Written by tools/worked_texts.
-- The texts, byte by byte.
use Rattle.std.specs.Prelude.{ℕ, List, codes}

abbrev pub rules_hash : List ℕ
rules_hash = codes "# Hash joins alone, and so no cross products.\ncost ACCESS_HEAP = 10 * pages + cpu * rows;\nrescan ACCESS_HEAP = 10 * pages + cpu * rows;\ncost ACCESS_INDEX = 10 + 10 * pages * card / rows + cpu * card;\nrescan ACCESS_INDEX = 10 + 10 * pages * card / rows + cpu * card;\ncost GET = cost1 + 10 * card1 + cpu * card1 * preds;\nrescan GET = rescan1 + 10 * card1 + cpu * card1 * preds;\ncost FILTER = cost1 + cpu * card1 * preds;\nrescan FILTER = rescan1 + cpu * card1 * preds;\ncost SORT = cost1 + 4 * cpu * card1;\nrescan SORT = rescan1 + 4 * cpu * card1;\ncost STORE = cost1 + 2 * cpu * card1;\nrescan STORE = cpu * card1;\ncost SHIP = cost1 + net * card1 * width1;\nrescan SHIP = rescan1 + net * card1 * width1;\ncost PROBE = cost1 + cpu * (1 + card);\nrescan PROBE = cpu * (1 + card);\ncost JOIN_NL = cost1 + cost2 + (card1 - 1) * rescan2;\nrescan JOIN_NL = rescan1 + card1 * rescan2;\ncost JOIN_MERGE = cost1 + cost2 + cpu * (card1 + card2);\nrescan JOIN_MERGE = rescan1 + rescan2 + cpu * (card1 + card2);\ncost JOIN_HASH = cost1 + cost2 + cpu * (card1 + 2 * card2);\nrescan JOIN_HASH = rescan1 + rescan2 + cpu * (card1 + 2 * card2);\nstar AccessRoot(A stream, J preds) = give ACCESS_HEAP(A, union(inside(tables(A)), J));\nstar JoinRoot(A stream, B stream, J preds) = when not(empty(equalities(between(tables(A), tables(B))))) give JOIN_HASH(Glue(A, J), Glue(B, J), equalities(between(tables(A), tables(B))), minus(between(tables(A), tables(B)), equalities(between(tables(A), tables(B)))));\n"

abbrev pub rules_intersect : List ℕ
rules_intersect = codes "# Two indexes of a table are read, and the rows that both give are fetched.\nversion 2;\ncost ACCESS_HEAP = 10 * pages + cpu * rows;\nrescan ACCESS_HEAP = 10 * pages + cpu * rows;\ncost ACCESS_INDEX = 10 + 10 * pages * card / rows + cpu * card;\nrescan ACCESS_INDEX = 10 + 10 * pages * card / rows + cpu * card;\ncost GET = cost1 + 10 * card1 + cpu * card1 * preds;\nrescan GET = rescan1 + 10 * card1 + cpu * card1 * preds;\ncost FILTER = cost1 + cpu * card1 * preds;\nrescan FILTER = rescan1 + cpu * card1 * preds;\ncost SORT = cost1 + 4 * cpu * card1;\nrescan SORT = rescan1 + 4 * cpu * card1;\ncost STORE = cost1 + 2 * cpu * card1;\nrescan STORE = cpu * card1;\ncost SHIP = cost1 + net * card1 * width1;\nrescan SHIP = rescan1 + net * card1 * width1;\ncost PROBE = cost1 + cpu * (1 + card);\nrescan PROBE = cpu * (1 + card);\ncost JOIN_NL = cost1 + cost2 + (card1 - 1) * rescan2;\nrescan JOIN_NL = rescan1 + card1 * rescan2;\ncost JOIN_MERGE = cost1 + cost2 + cpu * (card1 + card2);\nrescan JOIN_MERGE = rescan1 + rescan2 + cpu * (card1 + card2);\ncost JOIN_HASH = cost1 + cost2 + cpu * (card1 + 2 * card2);\nrescan JOIN_HASH = rescan1 + rescan2 + cpu * (card1 + 2 * card2);\nstar JoinRoot(A stream, B stream, J preds) = give JOIN_NL(Glue(A, J), Glue(B, J), between(tables(A), tables(B)));\ncost INTERSECT = cost1 + cost2 + cpu * (card1 + card2);\nrescan INTERSECT = rescan1 + rescan2 + cpu * (card1 + card2);\nstar AccessRoot(A stream, J preds) = give Paths(A, union(inside(tables(A)), J));\nstar Paths(A stream, P preds) =\n    give ACCESS_HEAP(A, P)\n  | for x in indexes(A) give GET(ACCESS_INDEX(A, x, indexable(A, x, P)), A, minus(P, indexable(A, x, P)))\n  | for x in indexes(A) for y in indexes(A) when not(same(x, y))\n      give GET(INTERSECT(ACCESS_INDEX(A, x, indexable(A, x, P)), ACCESS_INDEX(A, y, indexable(A, y, P))), A,\n        minus(P, union(indexable(A, x, P), indexable(A, y, P))));\n"

abbrev pub rules_merge : List ℕ
rules_merge = codes "# Merge joins alone.\ncost ACCESS_HEAP = 10 * pages + cpu * rows;\nrescan ACCESS_HEAP = 10 * pages + cpu * rows;\ncost ACCESS_INDEX = 10 + 10 * pages * card / rows + cpu * card;\nrescan ACCESS_INDEX = 10 + 10 * pages * card / rows + cpu * card;\ncost GET = cost1 + 10 * card1 + cpu * card1 * preds;\nrescan GET = rescan1 + 10 * card1 + cpu * card1 * preds;\ncost FILTER = cost1 + cpu * card1 * preds;\nrescan FILTER = rescan1 + cpu * card1 * preds;\ncost SORT = cost1 + 4 * cpu * card1;\nrescan SORT = rescan1 + 4 * cpu * card1;\ncost STORE = cost1 + 2 * cpu * card1;\nrescan STORE = cpu * card1;\ncost SHIP = cost1 + net * card1 * width1;\nrescan SHIP = rescan1 + net * card1 * width1;\ncost PROBE = cost1 + cpu * (1 + card);\nrescan PROBE = cpu * (1 + card);\ncost JOIN_NL = cost1 + cost2 + (card1 - 1) * rescan2;\nrescan JOIN_NL = rescan1 + card1 * rescan2;\ncost JOIN_MERGE = cost1 + cost2 + cpu * (card1 + card2);\nrescan JOIN_MERGE = rescan1 + rescan2 + cpu * (card1 + card2);\ncost JOIN_HASH = cost1 + cost2 + cpu * (card1 + 2 * card2);\nrescan JOIN_HASH = rescan1 + rescan2 + cpu * (card1 + 2 * card2);\nstar AccessRoot(A stream, J preds) = give ACCESS_HEAP(A, union(inside(tables(A)), J));\nstar JoinRoot(A stream, B stream, J preds) = give Keyed(A, B, J, equalities(between(tables(A), tables(B))));\nstar Keyed(A stream, B stream, J preds, M preds) = when not(empty(M)) give JOIN_MERGE(Glue(A[order keys(M, tables(A))], J), Glue(B[order keys(M, tables(B))], J), M, none);\n"

abbrev pub rules_skewed : List ℕ
rules_skewed = codes "# A constant that is asked for is twice as frequent as the others.\nversion 2;\ncost ACCESS_HEAP = 10 * pages + cpu * rows;\nrescan ACCESS_HEAP = 10 * pages + cpu * rows;\ncost ACCESS_INDEX = 10 + 10 * pages * card / rows + cpu * card;\nrescan ACCESS_INDEX = 10 + 10 * pages * card / rows + cpu * card;\ncost GET = cost1 + 10 * card1 + cpu * card1 * preds;\nrescan GET = rescan1 + 10 * card1 + cpu * card1 * preds;\ncost FILTER = cost1 + cpu * card1 * preds;\nrescan FILTER = rescan1 + cpu * card1 * preds;\ncost SORT = cost1 + 4 * cpu * card1;\nrescan SORT = rescan1 + 4 * cpu * card1;\ncost STORE = cost1 + 2 * cpu * card1;\nrescan STORE = cpu * card1;\ncost SHIP = cost1 + net * card1 * width1;\nrescan SHIP = rescan1 + net * card1 * width1;\ncost PROBE = cost1 + cpu * (1 + card);\nrescan PROBE = cpu * (1 + card);\ncost JOIN_NL = cost1 + cost2 + (card1 - 1) * rescan2;\nrescan JOIN_NL = rescan1 + card1 * rescan2;\ncost JOIN_MERGE = cost1 + cost2 + cpu * (card1 + card2);\nrescan JOIN_MERGE = rescan1 + rescan2 + cpu * (card1 + card2);\ncost JOIN_HASH = cost1 + cost2 + cpu * (card1 + 2 * card2);\nrescan JOIN_HASH = rescan1 + rescan2 + cpu * (card1 + 2 * card2);\nstar AccessRoot(A stream, J preds) = give ACCESS_HEAP(A, union(inside(tables(A)), J));\nstar JoinRoot(A stream, B stream, J preds) = give JOIN_NL(Glue(A, J), Glue(B, J), between(tables(A), tables(B)));\nselectivity EQ_CONST = 2 per distinct1;\n"

abbrev pub rules_standard : List ℕ
rules_standard = codes "# The standard repertoire: heap and index accesses, joins at each site, by nested loops, merging, hashing and probing.\ncost ACCESS_HEAP = 10 * pages + cpu * rows;\nrescan ACCESS_HEAP = 10 * pages + cpu * rows;\ncost ACCESS_INDEX = 10 + 10 * pages * card / rows + cpu * card;\nrescan ACCESS_INDEX = 10 + 10 * pages * card / rows + cpu * card;\ncost GET = cost1 + 10 * card1 + cpu * card1 * preds;\nrescan GET = rescan1 + 10 * card1 + cpu * card1 * preds;\ncost FILTER = cost1 + cpu * card1 * preds;\nrescan FILTER = rescan1 + cpu * card1 * preds;\ncost SORT = cost1 + 4 * cpu * card1;\nrescan SORT = rescan1 + 4 * cpu * card1;\ncost STORE = cost1 + 2 * cpu * card1;\nrescan STORE = cpu * card1;\ncost SHIP = cost1 + net * card1 * width1;\nrescan SHIP = rescan1 + net * card1 * width1;\ncost PROBE = cost1 + cpu * (1 + card);\nrescan PROBE = cpu * (1 + card);\ncost JOIN_NL = cost1 + cost2 + (card1 - 1) * rescan2;\nrescan JOIN_NL = rescan1 + card1 * rescan2;\ncost JOIN_MERGE = cost1 + cost2 + cpu * (card1 + card2);\nrescan JOIN_MERGE = rescan1 + rescan2 + cpu * (card1 + card2);\ncost JOIN_HASH = cost1 + cost2 + cpu * (card1 + 2 * card2);\nrescan JOIN_HASH = rescan1 + rescan2 + cpu * (card1 + 2 * card2);\nstar AccessRoot(A stream, J preds) =\n    give ACCESS_HEAP(A, union(inside(tables(A)), J))\n  | for x in indexes(A) give ACCESS_INDEX(A, x, indexable(A, x, union(inside(tables(A)), J)))\n  | for x in indexes(A) give GET(ACCESS_INDEX(A, x, indexable(A, x, union(inside(tables(A)), J))), A,\n      minus(union(inside(tables(A)), J), indexable(A, x, union(inside(tables(A)), J))));\nstar JoinRoot(A stream, B stream, J preds) =\n    for s in sites give JoinAt(A[site s], B[site s], J, between(tables(A), tables(B)));\nstar JoinAt(A stream, B stream, J preds, P preds) =\n    give JOIN_NL(Glue(A, J), Glue(B, union(J, P)), none)\n  | give JOIN_NL(Glue(A, J), Glue(B[temp], J), P)\n  | when not(empty(equalities(P))) give Keyed(A, B, J, P, equalities(P));\nstar Keyed(A stream, B stream, J preds, P preds, M preds) =\n    give JOIN_MERGE(Glue(A[order keys(M, tables(A))], J), Glue(B[order keys(M, tables(B))], J), M, minus(P, M))\n  | give JOIN_HASH(Glue(A, J), Glue(B, J), M, minus(P, M))\n  | give JOIN_NL(Glue(A, J), PROBE(Glue(B[path keys(M, tables(B))], none), keys(M, tables(B)),\n      union(P, meet(J, crossing(tables(B))))), none);\n"

abbrev pub catalogue_employees : List ℕ
catalogue_employees = codes "site hq cpu 1 net 1;\ntable emp at hq rows 1000 pages 100 file 'emp.csv' (id int width 8 distinct 1000, dno int width 8 distinct 10, name text width 20 distinct 1000);\nindex emp_dno on emp (dno, id) pages 20;\n"

abbrev pub catalogue_orders : List ℕ
catalogue_orders = codes "site hq cpu 1 net 3;\nsite branch cpu 2 net 3;\ntable nation at hq rows 25 pages 1 file 'nation.csv' (n_id int width 8 distinct 25, n_name text width 25 distinct 25);\ntable customer at hq rows 150000 pages 3600 file 'customer.csv' (c_id int width 8 distinct 150000, c_nation int width 8 distinct 25, c_name text width 25 distinct 150000);\ntable orders at branch rows 1500000 pages 26000 file 'orders.csv' (o_id int width 8 distinct 1500000, o_cust int width 8 distinct 100000, o_date int width 8 distinct 2400);\ntable line at branch rows 6000000 pages 110000 file 'line.csv' (l_order int width 8 distinct 1500000, l_part int width 8 distinct 200000, l_qty int width 8 distinct 50);\ntable part at hq rows 200000 pages 4000 file 'part.csv' (p_id int width 8 distinct 200000, p_name text width 55 distinct 200000);\nindex customer_nation on customer (c_nation, c_id) pages 400;\nindex orders_cust on orders (o_cust) pages 3300;\nindex line_order on line (l_order, l_part) pages 15000;\nindex part_id on part (p_id) pages 440;\n"

abbrev pub catalogue_two_sites : List ℕ
catalogue_two_sites = codes "# The query's site is a, where rows cost less.\nsite a cpu 1 net 1;\nsite b cpu 5 net 1;\ntable t at b rows 100 pages 1 file 't.csv' (k int width 8 distinct 100);\n"

abbrev pub query_cities : List ℕ
query_cities = codes "# over staff.catalogue\nselect e.id, d.city from dept d, emp e where e.dno = d.id;\n"

abbrev pub query_french_orders : List ℕ
query_french_orders = codes "# over orders.catalogue\nselect c.c_name, o.o_id, p.p_name, l.l_qty from customer c, nation n, orders o, line l, part p where c.c_nation = n.n_id and n.n_name = 'FRANCE' and o.o_cust = c.c_id and o.o_date >= 19940101 and l.l_order = o.o_id and l.l_part = p.p_id order by o.o_id, p.p_name at hq;\n"

abbrev pub query_pairs : List ℕ
query_pairs = codes "# over numbers.catalogue\nselect x.k, y.k from t x, t y where x.k = y.k order by x.k;\n"

abbrev pub query_shipped : List ℕ
query_shipped = codes "# over two_sites.catalogue\nselect t.k from t order by t.k at a;\n"

abbrev pub query_t : List ℕ
query_t = codes "# over t.catalogue\nselect t.a from t;\n"

abbrev pub derivation_both_indexes : List ℕ
derivation_both_indexes = codes "# The rows that two indexes share are found, and read.\n# intersect.rules two_indexes.query\n# cost 385 rescan 385 card 5\nglue;\ngoal {1} pushed {};\nref AccessRoot 1;\nref Paths 3 1 2;\nGET;\nINTERSECT;\nACCESS_INDEX;\nACCESS_INDEX;\n"

abbrev pub derivation_false_condition : List ℕ
derivation_false_condition = codes "# The reference's condition is false, since no equality links the tables.\n# hash.rules cross_product.query\n# not derived at node 3\nglue;\ngoal {1, 2} pushed {} split {1} {2};\nref JoinRoot 1;\nJOIN_HASH;\nglue;\ngoal {1} pushed {};\nref AccessRoot 1;\nACCESS_HEAP;\nglue;\ngoal {2} pushed {};\nref AccessRoot 1;\nACCESS_HEAP;\n"

abbrev pub derivation_pushed_twice : List ℕ
derivation_pushed_twice = codes "# A pushed predicate is handed on only where it crosses.\n# pushdown.rules colleagues.query\n# cost 1321210 rescan 1321210 card 100000\nglue;\ngoal {1, 2, 3} pushed {} split {3} {1, 2};\nref JoinRoot 1;\nJOIN_NL;\nglue;\ngoal {3} pushed {};\nref AccessRoot 2 1;\nACCESS_INDEX;\nglue;\ngoal {1, 2} pushed {2} split {1} {2};\nref JoinRoot 2;\nJOIN_NL;\nglue;\ngoal {1} pushed {};\nref AccessRoot 1;\nACCESS_HEAP;\nglue;\ngoal {2} pushed {2};\nref AccessRoot 2 1;\nACCESS_INDEX;\n"

abbrev pub derivation_shipped_then_sorted : List ℕ
derivation_shipped_then_sorted = codes "# Rows are shipped to the site where sorting costs less.\n# heaps.rules shipped.query\n# cost 2510 rescan 2510 card 100\nglue ship sort;\ngoal {1} pushed {};\nref AccessRoot 1;\nACCESS_HEAP;\n"

abbrev pub derivation_smallest : List ℕ
derivation_smallest = codes "# The one derivation of an empty table.\n# tiny.rules t.query\n# cost 0 rescan 0 card 0\nglue;\ngoal {1} pushed {};\nref AccessRoot 1;\nACCESS_HEAP;\n"

abbrev pub rules_of_all_forms : List ℕ
rules_of_all_forms = codes "# Each form of the rule language, and none that is accepted.\nstar AllForms(A stream, Q quants, P preds, C cols, S site, x index) =\n    for q in members(all) for p in each(indexable(A, x, equalities(crossing(tables(A)))))\n      when and(single(q), or(within(q, Q), begins(C, columns(A, x))))\n      give JOIN_MERGE(SHIP(PROBE(FILTER(GET(ACCESS_INDEX(A, x, P), A, none), p), keys(P, Q), union(P, meet(P, inside(Q)))), home(A)),\n        SORT(STORE(Glue(A[order orderby][site querysite][temp][path nocols], P), C), orderby), P, minus(P, between(Q, Q)))\n  | for t in indexes(A) for s in sites give AllForms(A[site s], Q, P, C, S, t)\n  | when not(same(Q, all)) give JOIN_HASH(Glue(tables(J)[temp], P), JOIN_NL(Other(A), ACCESS_HEAP(A, P), P), P, empty_one)\n  | when empty(tables(A)) give Glue(A, Q);\ncost JOIN_NL = if card1 * 2 <= cost1 - (card2 - 1) then min(cost1, cost2) else if card = 007 then max(one, net) * (cpu + width) else preds / (rows / width1);\nrescan JOIN_NL = rescan1 + rescan2 * width2 - pages;\ncost SORT = if (card1 + 1) * 2 = 3 then (if 1 < 2 then 1 else 2) + 1 else (7 - 1) / (2 * 3) - (1 - 1);\n"

abbrev pub query_of_all_forms : List ℕ
query_of_all_forms = codes "# over employees.catalogue\nselect e.id, emp.dno from emp, emp e\n  where e.id <> 3 and e.id < emp.id and emp.name = 'O''Hara' and emp.id <= 007 and e.dno > - 5 and e.dno>=0\n  order by e.id, e.dno at hq;\n"

abbrev pub derivation_of_all_forms : List ℕ
derivation_of_all_forms = codes "# cost 1 rescan 1 card 1\nglue ship sort store;\ngoal {1, 3, 32} pushed {2,4} split {1}{3,32};\nref  JoinRoot 1 2 65535;\nJOIN_NL; glue; goal {} pushed {}; GET; ACCESS_INDEX;\nSORT;\nACCESS_HEAP; # the end\n"

abbrev pub laid_out_rules : List ℕ
laid_out_rules = codes "star AllForms(A stream, Q quants, P preds, C cols, S site, x index) = for q in members(all) for p in each(indexable(A, x, equalities(crossing(tables(A))))) when and(single(q), or(within(q, Q), begins(C, columns(A, x)))) give JOIN_MERGE(SHIP(PROBE(FILTER(GET(ACCESS_INDEX(A, x, P), A, none), p), keys(P, Q), union(P, meet(P, inside(Q)))), home(A)), SORT(STORE(Glue(A[order orderby] [site querysite] [temp] [path nocols], P), C), orderby), P, minus(P, between(Q, Q))) | for t in indexes(A) for s in sites give AllForms(A[site s], Q, P, C, S, t) | when not(same(Q, all)) give JOIN_HASH(Glue(tables(J) [temp], P), JOIN_NL(Other(A), ACCESS_HEAP(A, P), P), P, empty_one) | when empty(tables(A)) give Glue(A, Q);\ncost JOIN_NL = if card1 * 2 <= cost1 - (card2 - 1) then min(cost1, cost2) else if card = 7 then max(one, net) * (cpu + width) else preds / (rows / width1);\nrescan JOIN_NL = rescan1 + rescan2 * width2 - pages;\ncost SORT = if(card1 + 1) * 2 = 3 then(if 1 < 2 then 1 else 2) + 1 else(7 - 1) / (2 * 3) - (1 - 1);\n"

abbrev pub laid_out_catalogue : List ℕ
laid_out_catalogue = codes "site hq cpu 1 net 1;\ntable emp at hq rows 1000 pages 100 file 'emp.csv' (id int width 8 distinct 1000, dno int width 8 distinct 10, name text width 20 distinct 1000);\nindex emp_dno on emp(dno, id) pages 20;\n"

abbrev pub laid_out_derivation : List ℕ
laid_out_derivation = codes "glue ship sort store;\ngoal {1, 3, 32} pushed {2, 4} split {1} {3, 32};\nref JoinRoot 1 2 65535;\nJOIN_NL;\nglue;\ngoal {} pushed {};\nGET;\nACCESS_INDEX;\nSORT;\nACCESS_HEAP;\n"
