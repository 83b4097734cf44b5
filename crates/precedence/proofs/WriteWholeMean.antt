-- What an alternative that is put means: the alternative without its annotations, substituted. Assumes nothing.
use mathlib.Core.Path.{◌≡◌, refl, sym, ap, ◌∙◌}
use mathlib.Core.Bool.{true}
use mathlib.Core.Logic.{◌⊎◌, inl, inr}
use mathlib.Core.List.{List, ◌∷◌, ◌++◌, append_assoc}
use Prim.Native.Nat.{ℕ, ◌+◌, ◌-◌, ◌*◌, ◌<◌, ◌≤◌}
use native.Mathlib.Omega.{arith}
use borrow.Author.Tests.{le-leb, lt-leb}
use lib.Dec.{leb}
use lib.ListN.{length, get_or, length-append}
use Rattle.octets.specs.Working.Choice.{pick}
use Rattle.octets.specs.Plain.Numbers.{le}
use Rattle.octets.specs.Plain.Runs.{part, Lies}
use Rattle.octets.specs.Working.Stores.{store}
use Rattle.octets.proofs.LiesLaws.{lies_split, lies_first, lies_from, lies_to, lies_part}
use Rattle.octets.proofs.NumbersLaws.{length-le}
use Rattle.octets.proofs.StoreLaws.{length_store, store-append, lies_store}
use Rattle.parse_tree.specs.Plain.Tree.{Text, Syms, Attribute, Condition, Alternative, count, conditions, nil, cons}
use Rattle.parse_tree.specs.Plain.Texts.{has, number}
use Rattle.parse_tree.specs.Plain.WriteTape.{bytes_of_each}
use Rattle.parse_tree.specs.Working.Nodes.{node_bytes, span_bytes}
use Rattle.parse_tree.specs.Working.Encode.{action_code, action_text, alternative_node, attribute_bytes, condition_node, condition_bytes, alternative_bytes, syms_bytes}
use Rattle.passes.specs.Outcome.{with_attributes, with_symbols}
use Rattle.passes.specs.Grades.{precedence, assoc, without_first, Graded, ceiling}
use Rattle.passes.specs.Levels.{Group, lower_name, substitute, occurs_in, replace_occurrences_in}
use Rattle.laws.proofs.Flat.{SymsFits}
use Rattle.laws.proofs.Rename.{renamed_all_length}
use Rattle.resolve.proofs.CellsLaws.{store-over}
use Rattle.grades.specs.declared.Assoc.{Assoc}
use Rattle.grades.specs.declared.Indices.{Indices}
use Rattle.grades.specs.Annotations.{conditions_from, symbols_from, first_index}
use Rattle.precedence.specs.Substitute.{substitute_out}
use Rattle.precedence.specs.Write.{Puts, head_out, stripped_out, PutsRenamed}
use Rattle.precedence.proofs.SubstituteMean.{side_meant, substitute-means}
use Rattle.precedence.proofs.WriteLaws.{fits_or_not}
use Rattle.precedence.proofs.WriteMean.{attribute_long, span_long, kept-means, annotations_gone}
use Rattle.precedence.proofs.WriteCountMean.{each_long, count_left}

-- the indices of its first `precedence` and its first `assoc`
abbrev pub annotations_of : Alternative → Indices
annotations_of a = record { precedence = first_index precedence a.attributes; assoc = first_index assoc a.attributes }

condition_long : (wd : ℕ) (ts : List Text) (c : Condition) → length (condition_bytes wd ts c) ≡ 10 + 2 * wd
unfolding condition_bytes condition_node node_bytes span_bytes
condition_long wd ts c = simp (length-append, length-le) (omega arith)

module _ (wd : ℕ) (ts : List Text) (a : Alternative) where
  -- the command behind its count of attributes, and what stands before it
  abbrev Front : List ℕ
  Front = 18 ∷ span_bytes a.span

  abbrev Back : List ℕ
  Back = length (conditions a.condition) ∷ action_code a.action ∷ (le wd (action_text ts a.action) ++ le 2 (count a.symbols))

  abbrev Attributes : List ℕ
  Attributes = bytes_of_each (attribute_bytes wd ts) a.attributes

  abbrev Conditions : List ℕ
  Conditions = bytes_of_each (condition_bytes wd ts) (conditions a.condition)

  abbrev Symbols : List ℕ
  Symbols = syms_bytes wd ts a.symbols

  front_long : length Front ≡ 9
  front_long = omega (arith, span_long a.span)

  back_long : length Back ≡ 4 + wd
  back_long = omega (arith, length-append (le wd (action_text ts a.action)) (le 2 (count a.symbols)), length-le wd (action_text ts a.action), length-le 2 (count a.symbols))

  -- where the parts of an alternative lie
  record Standing (w : List ℕ) (p e : ℕ) : Type 0 where
    front : part p (p + 9) w ≡ Front
    attributes : get_or w (p + 9) 0 ≡ length a.attributes
    conditions : get_or w (p + 10) 0 ≡ length (Rattle.parse_tree.specs.Plain.Tree.conditions a.condition)
    back : part (p + 10) (p + (14 + wd)) w ≡ Back
    labels : Lies w (p + (14 + wd)) Attributes (conditions_from wd w p)
    rest : Lies w (conditions_from wd w p) (Conditions ++ Symbols) e
    symbols : symbols_from wd w p + length Symbols ≡ e

  standing : (w : List ℕ) (p e : ℕ) → Lies w p (alternative_bytes wd ts a) e → Standing w p e
  unfolding alternative_bytes alternative_node node_bytes conditions_from symbols_from
  standing w p e l =
      let s = lies_split w p e (Front ++ (length a.attributes ∷ Back)) (Attributes ++ (Conditions ++ Symbols)) l in
      let n = length-append Front (length a.attributes ∷ Back) in
      let f = lies_split w p (p + length (Front ++ (length a.attributes ∷ Back))) Front (length a.attributes ∷ Back) s.0 in
      let x : p + length Front ≡ p + 9 = ap (λ (k : ℕ). p + k) front_long in
      let y : p + length (Front ++ (length a.attributes ∷ Back)) ≡ p + (14 + wd) = omega (arith, front_long, back_long) in
      let g = lies_first w (p + 9) (length a.attributes) Back (p + (14 + wd)) (lies_from x (lies_to y f.1)) in
      let z : p + 9 + 1 ≡ p + 10 = omega arith in
      let b = lies_from z g.2 in
      let h = lies_first w (p + 10) (length (Rattle.parse_tree.specs.Plain.Tree.conditions a.condition)) (action_code a.action ∷ (le wd (action_text ts a.action) ++ le 2 (count a.symbols))) (p + (14 + wd)) b in
      let t = lies_split w (p + (14 + wd)) e Attributes (Conditions ++ Symbols) (lies_from y s.1) in
      let k = each_long (attribute_bytes wd ts) (2 + 3 * wd) (attribute_long wd ts) a.attributes in
      let o = each_long (condition_bytes wd ts) (10 + 2 * wd) (condition_long wd ts) (Rattle.parse_tree.specs.Plain.Tree.conditions a.condition) in
      let u : get_or w (p + 9) 0 ≡ length a.attributes = g.1 in
      let v : get_or w (p + 10) 0 ≡ length (Rattle.parse_tree.specs.Plain.Tree.conditions a.condition) = h.1 in
      let j : p + (14 + wd) + length Attributes ≡ p + (14 + wd) + get_or w (p + 9) 0 * (2 + 3 * wd) = rw u (ap (λ (m : ℕ). p + (14 + wd) + m) k) in
      record {
        front = lies_part w p (p + 9) Front (lies_to x f.0);
        attributes = u;
        conditions = v;
        back = lies_part w (p + 10) (p + (14 + wd)) Back b;
        labels = lies_to j t.0;
        rest = lies_from j t.1;
        symbols = rw v (omega (arith, t.1.end, j, o, length-append Conditions Symbols));
      }

  -- the attributes that are left
  abbrev Left : List Attribute
  Left = without_first assoc (without_first precedence a.attributes)

  -- theorem: what is put is the alternative with them
  pub stripped_means : (w : List ℕ) (p e : ℕ) → Lies w p (alternative_bytes wd ts a) e
      → stripped_out wd w p e (annotations_of a) ≡ alternative_bytes wd ts (with_attributes a Left)
  unfolding stripped_out head_out alternative_bytes alternative_node node_bytes
  stripped_means w p e l =
      let s = standing w p e l in
      let n = s.attributes in
      let f = s.front in
      let b = s.back in
      let c = count_left a.attributes in
      let k = kept-means wd ts w a.attributes (p + (14 + wd)) (conditions_from wd w p) 0 (annotations_of a) s.labels ∙ ap (bytes_of_each (attribute_bytes wd ts)) (annotations_gone a.attributes) in
      let r = lies_part w (conditions_from wd w p) e (Conditions ++ Symbols) s.rest in
      rw (n, f, b, c, k, r)

  -- the symbols begin where the alternative ends or before
  pub symbols_upto : (w : List ℕ) (p e : ℕ) → Lies w p (alternative_bytes wd ts a) e → symbols_from wd w p ≤ e
  symbols_upto w p e l = omega (arith, (standing w p e l).symbols)

-- ---- and with its symbols renamed
renamed_count : (E : Text) (f : ℕ → Text) (xs : Syms) (j : ℕ) → count (replace_occurrences_in E f xs j) ≡ count xs
unfolding replace_occurrences_in count
renamed_count E f nil j = refl
renamed_count E f (cons x xs) j = ap Prim.Native.Nat.suc (renamed_count E f xs _)

-- the bytes of an alternative are those before its symbols and theirs
before-symbols : (wd : ℕ) (ts : List Text) (a : Alternative) → List ℕ
before-symbols wd ts a = node_bytes wd (alternative_node ts a) ++ (bytes_of_each (attribute_bytes wd ts) a.attributes ++ bytes_of_each (condition_bytes wd ts) (conditions a.condition))

split_bytes : (wd : ℕ) (ts : List Text) (a : Alternative) → alternative_bytes wd ts a ≡ before-symbols wd ts a ++ syms_bytes wd ts a.symbols
unfolding alternative_bytes before-symbols
split_bytes wd ts a =
    let n = node_bytes wd (alternative_node ts a) in
    let x = bytes_of_each (attribute_bytes wd ts) a.attributes in
    let y = bytes_of_each (condition_bytes wd ts) (conditions a.condition) in
    let z = syms_bytes wd ts a.symbols in
    ap (λ (r : List ℕ). n ++ r) (sym (append_assoc x y z)) ∙ sym (append_assoc n (x ++ y) z)

same_before : (wd : ℕ) (ts : List Text) (a : Alternative) (ys : Syms) → count ys ≡ count a.symbols → before-symbols wd ts (with_symbols a ys) ≡ before-symbols wd ts a
unfolding before-symbols alternative_node
same_before wd ts a ys z = rw z

-- a run put over by one of the same length behind its first part
over_behind : (w : List ℕ) (to : ℕ) (xs ys zs : List ℕ) → length ys ≡ length zs → store (store w to (xs ++ ys)) (to + length xs) zs ≡ store w to (xs ++ zs)
over_behind w to xs ys zs h =
    ap (λ (s : List ℕ). store s (to + length xs) zs) (sym (store-append w to (to + length xs) xs ys refl))
    ∙ store-over (store w to xs) (to + length xs) ys zs h ∙ store-append w to (to + length xs) xs zs refl

module _ (wd : ℕ) (ts : List Text) (E : Text) (group : Group Graded) (g : Graded) (known : has E ts ≡ true) (fits : SymsFits wd ts g.alternative.symbols) where
  abbrev Names : ℕ → Text
  Names = ceiling g.side group.name (lower_name group) (occurs_in E g.alternative.symbols)

  abbrev Head : List ℕ
  Head = before-symbols wd ts g.alternative

  abbrev Old : List ℕ
  Old = syms_bytes wd ts g.alternative.symbols

  abbrev New : List ℕ
  New = syms_bytes wd ts (replace_occurrences_in E Names g.alternative.symbols 0)

  same_long : length Old ≡ length New
  same_long = sym (renamed_all_length wd ts E Names known g.alternative.symbols 0)

  new_bytes_lem : alternative_bytes wd ts (substitute E group g) ≡ Head ++ New
  new_bytes_lem =
      let ys = replace_occurrences_in E Names g.alternative.symbols 0 in
      split_bytes wd ts (with_symbols g.alternative ys) ∙ ap (λ (h : List ℕ). h ++ New) (same_before wd ts g.alternative ys (renamed_count E Names g.alternative.symbols 0))

  module _ (w : List ℕ) (lim to s e r : ℕ) (side : Assoc) (w1 : List ℕ) (room : lim + 16 ≤ length w) (sided : side_meant side ≡ g.side) (ends : s + length Old ≡ e)
      (puts : Puts w lim to (Head ++ Old) r w1) where
    renamed_whole : to + length (Head ++ Old) ≤ lim → substitute_out wd w1 (r - (e - s)) r (number ts E) (number ts group.name) (number ts (lower_name group)) side ≡ store w to (Head ++ New)
    renamed_whole h =
        let n = length-append Head Old in
        let x : r ≡ to + length (Head ++ Old) = puts.after h in
        let y : r - (e - s) ≡ to + length Head = omega arith in
        let z = lies_store w to (Head ++ Old) (omega arith) in
        let t = lies_split (store w to (Head ++ Old)) to (to + length (Head ++ Old)) Head Old z in
        let l : Lies (store w to (Head ++ Old)) (to + length Head) Old r = lies_to (sym x) t.1 in
        let v = puts.whole h in
        let m = substitute-means wd ts E group.name (lower_name group) (number ts E) (number ts group.name) (number ts (lower_name group)) known refl refl refl side g.alternative.symbols fits (store w to (Head ++ Old)) (to + length Head) r l in
        let o : substitute_out wd (store w to (Head ++ Old)) (to + length Head) r (number ts E) (number ts group.name) (number ts (lower_name group)) side ≡ store (store w to (Head ++ Old)) (to + length Head) New = rw sided at m in
        rw (y, v) (o ∙ over_behind w to Head Old New same_long)

    renamed_puts : (w2 : List ℕ) → w2 ≡ pick (leb r lim) (substitute_out wd w1 (r - (e - s)) r (number ts E) (number ts group.name) (number ts (lower_name group)) side) w1
        → Puts w lim to (Head ++ New) r w2
    unfolding pick
    renamed_puts w2 q = go (fits_or_not (to + length (Head ++ Old)) lim)
      where
        go : (to + length (Head ++ Old) ≤ lim) ⊎ (lim < to + length (Head ++ Old)) → Puts w lim to (Head ++ New) r w2
        go (inl h) =
            let a = puts.after h in
            let b = same_long in
            let c = length-append Head Old in
            let d = length-append Head New in
            let z = le-leb r lim (omega arith) in
            let y : w2 ≡ store w to (Head ++ New) = (rw z at q) ∙ renamed_whole h in
            record {
              long = ap (length {A = ℕ}) y ∙ length_store w to (Head ++ New);
              whole = λ k. y;
              after = λ k. omega arith;
              over = λ k. absurd (omega arith);
              others = λ k. absurd (omega arith);
            }
        go (inr h) =
            let a = puts.over h in
            let b = same_long in
            let c = length-append Head Old in
            let d = length-append Head New in
            let z = lt-leb r lim (omega arith) in
            let y : w2 ≡ w1 = rw z at q in
            record {
              long = ap (length {A = ℕ}) y ∙ puts.long;
              whole = λ k. absurd (omega arith);
              after = λ k. absurd (omega arith);
              over = λ k. a;
              others = λ k i m. ap (λ (u : List ℕ). get_or u i 0) y ∙ puts.others h i m;
            }

-- theorem: the alternative a at p, without its first `precedence` and its first `assoc`, is put as its level has it
pub alternative_means : (wd : ℕ) (ts : List Text) (E : Text) (group : Group Graded) (g : Graded) (a : Alternative) → has E ts ≡ true → SymsFits wd ts a.symbols
    → g.alternative ≡ with_attributes a (without_first assoc (without_first precedence a.attributes))
    → (side : Assoc) → side_meant side ≡ g.side
    → (w : List ℕ) (p e lim to r : ℕ) (w1 : List ℕ) → Lies w p (alternative_bytes wd ts a) e → lim + 16 ≤ length w
    → PutsRenamed wd w p e (annotations_of a) (record { target = number ts E; here = number ts group.name; below = number ts (lower_name group); side = side }) lim to r w1
    → Puts w lim to (alternative_bytes wd ts (substitute E group g)) r w1
alternative_means wd ts E group g a known fits is side sided w p e lim to r w1 l room q =
    let bare = with_attributes a (without_first assoc (without_first precedence a.attributes)) in
    let same : g.alternative.symbols ≡ a.symbols = ap (λ (x : Alternative). x.symbols) is in
    let f : SymsFits wd ts g.alternative.symbols = rw same fits in
    let s = standing wd ts a w p e l in
    let x : stripped_out wd w p e (annotations_of a) ≡ before-symbols wd ts g.alternative ++ syms_bytes wd ts g.alternative.symbols
    = stripped_means wd ts a w p e l ∙ ap (alternative_bytes wd ts) (sym is) ∙ split_bytes wd ts g.alternative in
    let y = new_bytes_lem wd ts E group g known f in
    let ends : symbols_from wd w p + length (syms_bytes wd ts g.alternative.symbols) ≡ e = rw same s.symbols in
    rw y (renamed_puts wd ts E group g known f w lim to (symbols_from wd w p) e r side q.work room sided ends (rw x at q.puts) w1 q.renamed)
