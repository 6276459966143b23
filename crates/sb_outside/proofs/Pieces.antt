-- Lists that are cut into pieces: their numbers, and one piece or one item more.
use Rattle.std.proofs.Common.{◌≡◌, ◌+◌, ◌-◌, ◌<◌, ◌≤◌, ℕ, List, [], ◌∷◌, ◌++◌, length, take, drop, get_or, refl, ap, sym, ◌∙◌, arith, zero, suc, length-append, length-drop}
use Rattle.std.proofs.lemmas.List.{take-append-le, drop-append-le, take_all, length-take, get_or-take, get_or-drop}
use Rattle.std.proofs.Math.Seq.{drop-append_seam}
use Rattle.std.proofs.Math.ListN.{set}
use Rattle.sb_outside.specs.Pieces.{pieces, AreEnds, with_last_item}

pub length_pieces : {A : Type 0} (start : ℕ) (ends : List ℕ) (items : List A) → length (pieces start ends items) ≡ length ends
length_pieces start [] items = refl
length_pieces start (e ∷ ends) items = ap suc (length_pieces e ends items)

start_le : (start : ℕ) (ends : List ℕ) (size : ℕ) → AreEnds start ends size → start ≤ size
start_le start [] size are = omega arith
start_le start (e ∷ ends) size are = omega (arith, start_le e ends size are.1)

-- the places of a piece are in order and within the list
pub places : (start : ℕ) (ends : List ℕ) (size index : ℕ) → AreEnds start ends size → index < length ends
    → (get_or (start ∷ ends) index 0 ≤ get_or ends index 0) × (get_or ends index 0 ≤ size)
places start [] size index are lt = absurd (omega arith)
places start (e ∷ ends) size zero are lt = (are.0, start_le e ends size are.1)
places start (e ∷ ends) size (suc index) are lt = places e ends size index are.1 (omega arith)

-- the piece of a number, by its places
pub piece_at : {A : Type 0} (start : ℕ) (ends : List ℕ) (items : List A) (index : ℕ) → index < length ends
    → get_or (pieces start ends items) index [] ≡ take (get_or ends index 0 - get_or (start ∷ ends) index 0) (drop (get_or (start ∷ ends) index 0) items)
piece_at start [] items index lt = absurd (omega arith)
piece_at start (e ∷ ends) items zero lt = refl
piece_at start (e ∷ ends) items (suc index) lt = piece_at e ends items index (omega arith)

-- how long it is
pub length_piece : {A : Type 0} (start : ℕ) (ends : List ℕ) (items : List A) (index : ℕ) → AreEnds start ends (length items) → index < length ends
    → length (get_or (pieces start ends items) index []) ≡ get_or ends index 0 - get_or (start ∷ ends) index 0
length_piece start ends items index are lt =
    let at = places start ends (length items) index are lt in
    let first = get_or (start ∷ ends) index 0 in
    let size = get_or ends index 0 - first in
    ap length (piece_at start ends items index lt) ∙ omega (arith, length-take size (drop first items), length-drop first items)

-- an item of it, by its place in the list
pub item_at : {A : Type 0} (start : ℕ) (ends : List ℕ) (items : List A) (index place : ℕ) (d : A) → AreEnds start ends (length items) → index < length ends
    → place < length (get_or (pieces start ends items) index [])
    → get_or (get_or (pieces start ends items) index []) place d ≡ get_or items (get_or (start ∷ ends) index 0 + place) d
item_at start ends items index place d are lt within =
    let first = get_or (start ∷ ends) index 0 in
    let size = get_or ends index 0 - first in
    let len = length_piece start ends items index are lt in
    ap (λ piece. get_or piece place d) (piece_at start ends items index lt)
    ∙ get_or-take size (drop first items) place d (omega arith)
    ∙ get_or-drop first items place d

pub are_ends_more : (start : ℕ) (ends : List ℕ) (n m : ℕ) → AreEnds start ends n → n ≤ m → AreEnds start (ends ++ m ∷ []) m
are_ends_more start [] n m are le = (omega arith, refl)
are_ends_more start (e ∷ ends) n m are le = (are.0, are_ends_more e ends n m are.1 le)

piece_same : {A : Type 0} (start e : ℕ) (xs ys : List A) → start ≤ e → e ≤ length xs → take (e - start) (drop start (xs ++ ys)) ≡ take (e - start) (drop start xs)
piece_same start e xs ys le in_xs =
    let here : start ≤ length xs = omega arith in
    let room : e - start ≤ length (drop start xs) = omega (arith, length-drop start xs) in
    rw (drop-append-le, take-append-le) refl

-- one piece more
pub pieces_more : {A : Type 0} (start : ℕ) (ends : List ℕ) (xs ys all : List A) (size : ℕ) → AreEnds start ends (length xs) → all ≡ xs ++ ys → size ≡ length all
    → pieces start (ends ++ size ∷ []) all ≡ pieces start ends xs ++ (ys ∷ [])
pieces_more start [] xs ys all size are all_is size_is =
    let at : drop start all ≡ ys = ap (λ l. drop start l) all_is ∙ ap (λ i. drop i (xs ++ ys)) are ∙ drop-append_seam xs ys in
    let len : length all ≡ length xs + length ys = ap length all_is ∙ length-append xs ys in
    let rest : take (size - start) ys ≡ ys = take_all (size - start) ys (omega arith) in
    rw (at, rest) refl
pieces_more start (e ∷ ends) xs ys all size are all_is size_is =
    let later = pieces_more e ends xs ys all size are.1 all_is size_is in
    let le : e ≤ length xs = start_le e ends (length xs) are.1 in
    let first : take (e - start) (drop start all) ≡ take (e - start) (drop start xs) = ap (λ l. take (e - start) (drop start l)) all_is ∙ piece_same start e xs ys are.0 le in
    rw (later, first) refl

are_ends_last : (start : ℕ) (ends : List ℕ) (n m last : ℕ) → AreEnds start ends n → last + 1 ≡ length ends → n ≤ m → AreEnds start (set ends last m) m
are_ends_last start [] n m last are is le = absurd (omega arith)
are_ends_last start (e ∷ []) n m zero are is le = (omega arith, refl)
are_ends_last start (e ∷ []) n m (suc last) are is le = absurd (omega arith)
are_ends_last start (e ∷ f ∷ ends) n m zero are is le = absurd (omega arith)
are_ends_last start (e ∷ f ∷ ends) n m (suc last) are is le = (are.0, are_ends_last e (f ∷ ends) n m last are.1 (omega arith) le)

-- one item more in the last piece
pieces_last : {A : Type 0} (start : ℕ) (ends : List ℕ) (xs : List A) (x : A) (last size : ℕ) → AreEnds start ends (length xs) → last + 1 ≡ length ends → size ≡ length xs + 1
    → pieces start (set ends last size) (xs ++ x ∷ []) ≡ with_last_item (pieces start ends xs) x
pieces_last start [] xs x last size are is size_is = absurd (omega arith)
pieces_last start (e ∷ []) xs x zero size are is size_is =
    let le : start ≤ length xs = omega arith in
    let behind : drop start (xs ++ x ∷ []) ≡ drop start xs ++ x ∷ [] = drop-append-le start xs (x ∷ []) le in
    let len : length (drop start xs) ≡ length xs - start = length-drop start xs in
    let long : length (drop start xs ++ x ∷ []) ≡ length (drop start xs) + 1 = length-append (drop start xs) (x ∷ []) in
    let whole : take (size - start) (drop start xs ++ x ∷ []) ≡ drop start xs ++ x ∷ [] = take_all (size - start) (drop start xs ++ x ∷ []) (omega arith) in
    let old : take (e - start) (drop start xs) ≡ drop start xs = take_all (e - start) (drop start xs) (omega arith) in
    rw (behind, whole, old) refl
pieces_last start (e ∷ []) xs x (suc last) size are is size_is = absurd (omega arith)
pieces_last start (e ∷ f ∷ ends) xs x zero size are is size_is = absurd (omega arith)
pieces_last start (e ∷ f ∷ ends) xs x (suc last) size are is size_is =
    let le : e ≤ length xs = start_le e (f ∷ ends) (length xs) are.1 in
    let later = pieces_last e (f ∷ ends) xs x last size are.1 (omega arith) size_is in
    rw (piece_same start e xs (x ∷ []) are.0 le, later) refl

-- what a field more does to the three vectors of a table
pub record FieldMore (field_ends record_ends bytes now_field_ends now_record_ends now_bytes field : List ℕ) : Type 0 where
  pub fields : AreEnds 0 now_field_ends (length now_bytes)
  pub records : AreEnds 0 now_record_ends (length now_field_ends)
  pub view : pieces 0 now_record_ends (pieces 0 now_field_ends now_bytes) ≡ with_last_item (pieces 0 record_ends (pieces 0 field_ends bytes)) field

pub field_more : (bytes field now_bytes field_ends now_field_ends record_ends now_record_ends : List ℕ) (size count last : ℕ)
    → AreEnds 0 field_ends (length bytes) → AreEnds 0 record_ends (length field_ends)
    → now_bytes ≡ bytes ++ field → now_field_ends ≡ field_ends ++ size ∷ [] → size ≡ length bytes + length field
    → now_record_ends ≡ set record_ends last count → count ≡ length field_ends + 1 → last + 1 ≡ length record_ends
    → FieldMore field_ends record_ends bytes now_field_ends now_record_ends now_bytes field
field_more bytes field now_bytes field_ends now_field_ends record_ends now_record_ends size count last fields records bytes_is field_ends_is size_is record_ends_is count_is last_is =
    let len : length now_bytes ≡ size = ap length bytes_is ∙ length-append bytes field ∙ sym size_is in
    let more : length now_field_ends ≡ count = ap length field_ends_is ∙ length-append field_ends (size ∷ []) ∙ sym count_is in
    let fields_len = length_pieces 0 field_ends bytes in
    let fields_is : pieces 0 now_field_ends now_bytes ≡ pieces 0 field_ends bytes ++ field ∷ [] = rw field_ends_is (pieces_more 0 field_ends bytes field now_bytes size fields bytes_is (sym len)) in
    record {
      fields = rw (len, field_ends_is) (are_ends_more 0 field_ends (length bytes) size fields (omega arith));
      records = rw (more, record_ends_is) (are_ends_last 0 record_ends (length field_ends) count last records last_is (omega arith));
      view = rw (fields_is, record_ends_is) (pieces_last 0 record_ends (pieces 0 field_ends bytes) field last count (rw fields_len records) last_is (omega arith));
    }
