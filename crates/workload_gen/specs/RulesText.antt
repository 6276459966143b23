-- The rules of each workload, in canonical layout: tables are read as heaps or by their indexes, and tables that a predicate links are
-- joined by nested loops, which push it into the second, or by hashing.
use Rattle.std.specs.Prelude.{ℕ, List, ◌++◌, codes}

-- the formulas of all operators
abbrev pub formulas_text : List ℕ
formulas_text =
    codes "cost ACCESS_HEAP = 10 * pages + cpu * rows;\n"
    ++ codes "rescan ACCESS_HEAP = 10 * pages + cpu * rows;\n"
    ++ codes "cost ACCESS_INDEX = 10 + 10 * pages * card / rows + cpu * card;\n"
    ++ codes "rescan ACCESS_INDEX = 10 + 10 * pages * card / rows + cpu * card;\n"
    ++ codes "cost GET = cost1 + 10 * card1 + cpu * card1 * preds;\n"
    ++ codes "rescan GET = rescan1 + 10 * card1 + cpu * card1 * preds;\n"
    ++ codes "cost FILTER = cost1 + cpu * card1 * preds;\n"
    ++ codes "rescan FILTER = rescan1 + cpu * card1 * preds;\n"
    ++ codes "cost SORT = cost1 + 4 * cpu * card1;\n"
    ++ codes "rescan SORT = rescan1 + 4 * cpu * card1;\n"
    ++ codes "cost STORE = cost1 + 2 * cpu * card1;\n"
    ++ codes "rescan STORE = cpu * card1;\n"
    ++ codes "cost SHIP = cost1 + net * card1 * width1;\n"
    ++ codes "rescan SHIP = rescan1 + net * card1 * width1;\n"
    ++ codes "cost PROBE = cost1 + cpu * (1 + card);\n"
    ++ codes "rescan PROBE = cpu * (1 + card);\n"
    ++ codes "cost JOIN_NL = cost1 + cost2 + (card1 - 1) * rescan2;\n"
    ++ codes "rescan JOIN_NL = rescan1 + card1 * rescan2;\n"
    ++ codes "cost JOIN_MERGE = cost1 + cost2 + cpu * (card1 + card2);\n"
    ++ codes "rescan JOIN_MERGE = rescan1 + rescan2 + cpu * (card1 + card2);\n"
    ++ codes "cost JOIN_HASH = cost1 + cost2 + cpu * (card1 + 2 * card2);\n"
    ++ codes "rescan JOIN_HASH = rescan1 + rescan2 + cpu * (card1 + 2 * card2);\n"

abbrev pub stars_text : List ℕ
stars_text =
    codes "star AccessRoot(A stream, J preds) = "
    ++ codes "give ACCESS_HEAP(A, union(inside(tables(A)), J)) | "
    ++ codes "for x in indexes(A) give ACCESS_INDEX(A, x, union(inside(tables(A)), J));\n"
    ++ codes "star JoinRoot(A stream, B stream, J preds) = "
    ++ codes "give Both(A, B, J, between(tables(A), tables(B)));\n"
    ++ codes "star Both(A stream, B stream, J preds, P preds) = "
    ++ codes "when not(empty(P)) give JOIN_NL(Glue(A, J), Glue(B, union(J, P)), none) | "
    ++ codes "when not(empty(equalities(P))) "
    ++ codes "give JOIN_HASH(Glue(A, J), Glue(B, J), equalities(P), minus(P, equalities(P)));\n"

abbrev pub rules_text : List ℕ
rules_text = formulas_text ++ stars_text
