-- What looking for attributes means: the index is that of the first attribute of the text, and the value there is the one that Grades takes.
-- Assumes nothing.
use mathlib.Core.Path.{◌≡◌, refl, sym, ap, ◌∙◌}
use mathlib.Core.Bool.{Bool, true, false, cond}
use mathlib.Core.List.{List, [], ◌∷◌, ◌++◌}
use mathlib.Core.Option.{Option, none, some}
use Prim.Native.Nat.{ℕ, suc, ◌+◌, ◌*◌}
use native.Mathlib.Omega.{arith}
use lib.ListN.{length, get_or, length-append}
use Rattle.std.specs.Prelude.{Option as Maybe, Some, None, is_some, option_map}
use lib.Dec.{eqb}
use Rattle.std.specs.Option.{option_eq}
use Rattle.octets.specs.Working.Choice.{pick}
use Rattle.octets.specs.Plain.Numbers.{le_at, le}
use Rattle.octets.specs.Plain.Runs.{Lies, same_as}
use Rattle.octets.proofs.LiesLaws.{lies_split, lies_from}
use Rattle.octets.proofs.NumbersLaws.{length-le}
use Rattle.parse_tree.specs.Plain.Tree.{Text, Attribute}
use Rattle.parse_tree.specs.Plain.Texts.{has, number}
use Rattle.parse_tree.specs.Plain.WriteTape.{bytes_of_each}
use Rattle.parse_tree.specs.Working.Nodes.{node_bytes}
use Rattle.parse_tree.specs.Working.Encode.{attribute_node, attribute_bytes}
use Rattle.parse_tree.specs.Working.Within.{Each, ArgumentWithin, AttributeWithin}
use Rattle.parse_tree.proofs.FieldLaws.{byte_read, le-read_then, le-read_last}
use Rattle.parse_tree.proofs.TextLaws.{text_number}
use Rattle.texts.specs.Table.{found_in}
use Rattle.passes.specs.Grades.{value_of, is_given}
use Rattle.grades.specs.Annotations.{attributes_long, first_with, value_text, first_index}
use Rattle.grades.proofs.IdsMean.{id_tells}
use Rattle.grades.proofs.AnnotationsCode.{long_more, long_none}

-- the text of a value that may be missing
abbrev pub text_of : Option (Text × Text) → Text
text_of none = []
text_of (some kv) = kv.1

abbrev pub text_given : Option (Option Text) → Text
text_given none = []
text_given (some none) = []
text_given (some (some t)) = t

module _ (four : Bool) (wd : ℕ) (ts : List Text) where
  -- ---- one attribute
  pub record AttributeAt (w : List ℕ) (p : ℕ) (a : Attribute) : Type 0 where
    pub id : le_at wd w (p + 1) ≡ number ts a.id
    pub text : value_text wd ts w p ≡ text_of a.argument

  abbrev bytes : ℕ → ℕ → ℕ → ℕ → List ℕ
  bytes x k y z = 19 ∷ (le wd x ++ (k ∷ (le wd y ++ le wd z)))

  bytes_long : (x k y z : ℕ) → length (bytes x k y z) ≡ 2 + 3 * wd
  bytes_long x k y z =
      omega (arith, length-append (le wd x) (k ∷ (le wd y ++ le wd z)), length-append (le wd y) (le wd z), length-le wd x, length-le wd y, length-le wd z)

  pub attribute_long : (a : Attribute) → length (attribute_bytes wd ts a) ≡ 2 + 3 * wd
  unfolding attribute_bytes attribute_node node_bytes
  attribute_long a = go a.argument
    where
      go : (o : Option (Text × Text)) → length (attribute_bytes wd ts (record { id = a.id; argument = o })) ≡ 2 + 3 * wd
      go none = bytes_long (number ts a.id) 0 0 0
      go (some kv) = bytes_long (number ts a.id) 1 (number ts kv.0) (number ts kv.1)

  -- what is read of one: its id, and of the rest if the kind is not 0 the value
  no_value : (w : List ℕ) (p : ℕ) → get_or w (p + 1 + wd) 0 ≡ 0 → value_text wd ts w p ≡ []
  unfolding value_text pick
  no_value w p h = cc

  a_value : (w : List ℕ) (p : ℕ) (t : Text) → get_or w (p + 1 + wd) 0 ≡ 1 → le_at wd w (p + 2 + wd + wd) ≡ number ts t → has t ts ≡ true → value_text wd ts w p ≡ t
  unfolding value_text pick
  a_value w p t h k l = cc (text_number ts t l)

  pub attribute_read : (w : List ℕ) (p e : ℕ) (a : Attribute) → AttributeWithin four wd ts a → Lies w p (attribute_bytes wd ts a) e → AttributeAt w p a
  unfolding attribute_bytes attribute_node node_bytes
  attribute_read w p e a h l = go a.argument h.1 l
    where
      go : (o : Option (Text × Text)) → ArgumentWithin four wd ts o → Lies w p (attribute_bytes wd ts (record { id = a.id; argument = o })) e → AttributeAt w p (record { id = a.id; argument = o })
      go none g k =
          let b = byte_read w e p (p + 1) refl k in
          let c = le-read_then w e (p + 1) (p + 1 + wd) wd refl h.0.1 b.1 in
          let d = byte_read w e (p + 1 + wd) (p + 2 + wd) (omega arith) c.1 in
          record { id = c.0; text = no_value w p d.0 }
      go (some kv) g k =
          let b = byte_read w e p (p + 1) refl k in
          let c = le-read_then w e (p + 1) (p + 1 + wd) wd refl h.0.1 b.1 in
          let d = byte_read w e (p + 1 + wd) (p + 2 + wd) (omega arith) c.1 in
          let f = le-read_then w e (p + 2 + wd) (p + 2 + wd + wd) wd refl g.0.1 d.1 in
          let v = le-read_last w e (p + 2 + wd + wd) wd g.1.1 f.1 in
          record { id = c.0; text = a_value w p kv.1 d.0 v.0 g.1.0 }

  -- ---- all of them
  pub attributes_long_lem : (xs : List Attribute) → length (bytes_of_each (attribute_bytes wd ts) xs) ≡ attributes_long wd (length xs)
  unfolding bytes_of_each
  attributes_long_lem [] = sym (long_none wd)
  attributes_long_lem (a ∷ rest) =
      omega (arith, length-append (attribute_bytes wd ts a) (bytes_of_each (attribute_bytes wd ts) rest), attribute_long a, attributes_long_lem rest, long_more wd (length rest))

  -- what Grades takes of the attributes, and what the index says
  abbrev pub Says : List ℕ → ℕ → Option (Option Text) → Maybe ℕ → Type 0
  Says w at v None = v ≡ none
  Says w at v (Some i) = (is_given v ≡ true) × (value_text wd ts w (at + attributes_long wd i) ≡ text_given v)

  pub record Value (w : List ℕ) (at : ℕ) (id : Text) (xs : List Attribute) : Type 0 where
    pub index : first_with wd (found_in ts id) w at (length xs) ≡ first_index id xs
    pub says : Says w at (value_of id xs) (first_index id xs)

  none_there : (w : List ℕ) (p : ℕ) (id : Text) → first_with wd (found_in ts id) w p 0 ≡ None
  unfolding first_with
  none_there w p id = refl

  one_there : (w : List ℕ) (p n : ℕ) (k : Maybe ℕ) (b : Bool) → option_eq eqb k (Some (le_at wd w (p + 1))) ≡ b
      → first_with wd k w p (suc n) ≡ cond b (Some 0) (option_map suc (first_with wd k w (p + (2 + 3 * wd)) n))
  unfolding first_with pick
  one_there w p n k true e = cc
  one_there w p n k false e = cc

  value_in : (a : Attribute) → text_of a.argument ≡ text_given (some (elim a.argument [ none ↦ none | some kv ↦ some kv.1 ]))
  value_in a = go a.argument
    where
      go : (o : Option (Text × Text)) → text_of o ≡ text_given (some (elim o [ none ↦ none | some kv ↦ some kv.1 ]))
      go none = refl
      go (some kv) = refl

  -- one attribute more before those that the index is of
  says_next : (w : List ℕ) (at : ℕ) (v : Option (Option Text)) (o : Maybe ℕ) → Says w (at + (2 + 3 * wd)) v o → Says w at v (option_map suc o)
  says_next w at v None s = s
  says_next w at v (Some i) s =
      let p : at + attributes_long wd (suc i) ≡ at + (2 + 3 * wd) + attributes_long wd i = omega (arith, long_more wd i) in
      (s.0, ap (value_text wd ts w) p ∙ s.1)

  -- theorem: the index is that of the first of them, and the value there is the one that is taken
  pub value_means : (w : List ℕ) (at e : ℕ) (id : Text) (xs : List Attribute) → Each (AttributeWithin four wd ts) xs → Lies w at (bytes_of_each (attribute_bytes wd ts) xs) e → Value w at id xs
  unfolding bytes_of_each first_index
  value_means w at e id [] h l = record { index = none_there w at id; says = refl }
  value_means w at e id (a ∷ rest) h l =
      let s = lies_split w at e (attribute_bytes wd ts a) (bytes_of_each (attribute_bytes wd ts) rest) l in
      let q : at + length (attribute_bytes wd ts a) ≡ at + (2 + 3 * wd) = ap (λ (k : ℕ). at + k) (attribute_long a) in
      let o = attribute_read w at _ a h.0 s.0 in
      let t : option_eq eqb (found_in ts id) (Some (le_at wd w (at + 1))) ≡ same_as id a.id = ap (λ (k : ℕ). option_eq eqb (found_in ts id) (Some k)) o.id ∙ id_tells ts id a.id h.0.0.0 in
      go (same_as id a.id) refl o t (value_means w (at + (2 + 3 * wd)) e id rest h.1 (lies_from q s.1))
    where
      value : Option Text
      value = elim a.argument [ none ↦ none | some kv ↦ some kv.1 ]

      go : (b : Bool) → same_as id a.id ≡ b → AttributeAt w at a → option_eq eqb (found_in ts id) (Some (le_at wd w (at + 1))) ≡ same_as id a.id → Value w (at + (2 + 3 * wd)) id rest → Value w at id (a ∷ rest)
      go true z o t v =
          let i : first_index id (a ∷ rest) ≡ Some 0 = ap (λ (x : Bool). cond x (Some 0) (option_map suc (first_index id rest))) z in
          let y : value_of id (a ∷ rest) ≡ some value = ap (λ (x : Bool). cond x (some value) (value_of id rest)) z in
          let p : at + attributes_long wd 0 ≡ at = omega (arith, long_none wd) in
          let k : Says w at (some value) (Some 0) = (refl, ap (value_text wd ts w) p ∙ o.text ∙ value_in a) in
          record { index = one_there w at (length rest) (found_in ts id) true (t ∙ z) ∙ sym i; says = rw (i, y) k }
      go false z o t v =
          let i : first_index id (a ∷ rest) ≡ option_map suc (first_index id rest) = ap (λ (x : Bool). cond x (Some 0) (option_map suc (first_index id rest))) z in
          let y : value_of id (a ∷ rest) ≡ value_of id rest = ap (λ (x : Bool). cond x (some value) (value_of id rest)) z in
          record {
            index = one_there w at (length rest) (found_in ts id) false (t ∙ z) ∙ ap (option_map suc) v.index ∙ sym i;
            says = rw (i, y) (says_next w at (value_of id rest) (first_index id rest) v.says);
          }

  pub value_given : (w : List ℕ) (at : ℕ) (id : Text) (xs : List Attribute) → Value w at id xs → is_some (first_index id xs) ≡ is_given (value_of id xs)
  value_given w at id xs v = go (first_index id xs) v.says
    where
      go : (o : Maybe ℕ) → Says w at (value_of id xs) o → is_some o ≡ is_given (value_of id xs)
      go None s = sym (ap is_given s)
      go (Some i) s = sym s.0
