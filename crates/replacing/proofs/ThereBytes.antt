-- Symbols and items whose texts are all known have the same bytes by more texts. Assumes nothing.
use mathlib.Core.Path.{◌≡◌, refl, sym, ap, ◌∙◌, subst}
use mathlib.Core.Bool.{Bool, true, false}
use mathlib.Core.List.{List, [], ◌∷◌, ◌++◌, append_assoc}
use mathlib.Core.Option.{Option, none, some}
use Prim.Native.Nat.{ℕ}
use Rattle.parse_tree.specs.Plain.Tree.{Text, Leaf, Around, Over, Sym, Syms, Action, Attribute, Condition, Alternative, Item, ambiguous, bare, quoted, regex, nonterminal, lookahead, lookbehind, error, repeat, choose, name, macro, group, leaf, around, over, nil, cons, no_action, user, fallible, lookahead_action, lookbehind_action, item, count, conditions}
use Rattle.parse_tree.specs.Plain.Texts.{has, with_new}
use Rattle.parse_tree.specs.Plain.References.{texts_of_each, leaf_texts, around_texts, over_texts, sym_texts, syms_texts, action_texts, attribute_texts, condition_texts, alternative_texts, item_texts}
use Rattle.parse_tree.specs.Plain.WriteTape.{bytes_of_each}
use Rattle.parse_tree.specs.Working.Nodes.{node_bytes}
use Rattle.parse_tree.specs.Working.Encode.{leaf_node, around_node, over_node, action_text, alternative_node, attribute_node, condition_node, nonterminal_node, sym_bytes, syms_bytes, argument_bytes, attribute_bytes, condition_bytes, alternative_bytes, item_bytes}
use Rattle.parse_tree.specs.Working.Within.{Each}
use Rattle.parse_tree.proofs.AmongLaws.{has_here, has-behind}
use Rattle.replacing.proofs.Growing.{Extends, extends_has, extends_number, new_append, new_extends}
use Rattle.parse_tree.proofs.NothingNew.{There}

-- ---- lists
each-parts : {A : Type 0} (P : A → Type 0) (xs ys : List A) → Each P (xs ++ ys) → Each P xs × Each P ys
each-parts P [] ys h = (tt, h)
each-parts P (x ∷ xs) ys h = let (a, b) = each-parts P xs ys h.1 in ((h.0, a), b)

pub there_parts : (us xs ys : List Text) → There us (xs ++ ys) → There us xs × There us ys
there_parts us xs ys h = each-parts (λ (x : Text). has x us ≡ true) xs ys h

-- the bytes of two lists
pub bytes_both : {A : Type 0} (f : A → List ℕ) (xs ys : List A) → bytes_of_each f (xs ++ ys) ≡ bytes_of_each f xs ++ bytes_of_each f ys
unfolding bytes_of_each
bytes_both f [] ys = refl
bytes_both f (x ∷ xs) ys = ap (λ (l : List ℕ). f x ++ l) (bytes_both f xs ys) ∙ sym (append_assoc (f x) (bytes_of_each f xs) (bytes_of_each f ys))

-- functions that agree where the texts are known
pub bytes_known : {A : Type 0} (us : List Text) (t : A → List Text) (f g : A → List ℕ) → ((x : A) → There us (t x) → f x ≡ g x) → (xs : List A) → There us (texts_of_each t xs) → bytes_of_each f xs ≡ bytes_of_each g xs
unfolding bytes_of_each texts_of_each
bytes_known us t f g h [] e = refl
bytes_known us t f g h (x ∷ xs) e =
    let (a, b) = there_parts us (t x) (texts_of_each t xs) e in
    rw (h x a, bytes_known us t f g h xs b) refl

-- theorem: a text that was entered is known
pub new_has : (us : List Text) (x : Text) → has x (with_new us (x ∷ [])) ≡ true
unfolding with_new
new_has us x = go (has x us) refl
  where
    go : (b : Bool) → has x us ≡ b → has x (elim b [ true ↦ us | false ↦ us ++ (x ∷ []) ]) ≡ true
    go true e = e
    go false e = has-behind x us (x ∷ []) (has_here x [])

-- theorem: and so are several
pub new_all : (us xs : List Text) → There (with_new us xs) xs
new_all us [] = tt
new_all us (x ∷ xs) =
    let vs = with_new us (x ∷ []) in
    subst (λ (l : List Text). There l (x ∷ xs)) (sym (new_append us (x ∷ []) xs)) (extends_has vs (with_new vs xs) x (new_extends vs xs) (new_has us x), new_all vs xs)

-- vs begins with us
module _ (wd : ℕ) (us vs : List Text) (p : Extends us vs) where
  leaf_known : (l : Leaf) → There us (leaf_texts l) → leaf_node vs l ≡ leaf_node us l
  unfolding leaf_node leaf_texts
  leaf_known (ambiguous x) h = rw (extends_number us vs x p h.0) refl
  leaf_known (bare x) h = rw (extends_number us vs x p h.0) refl
  leaf_known (quoted x) h = rw (extends_number us vs x p h.0) refl
  leaf_known (regex x) h = rw (extends_number us vs x p h.0) refl
  leaf_known (nonterminal x) h = rw (extends_number us vs x p h.0) refl
  leaf_known lookahead h = refl
  leaf_known lookbehind h = refl
  leaf_known error h = refl

  around_known : (a : Around) → There us (around_texts a) → around_node vs a ≡ around_node us a
  unfolding around_node around_texts
  around_known (repeat o) h = refl
  around_known choose h = refl
  around_known (name m x) h = rw (extends_number us vs x p h.0) refl

  over_known : (o : Over) (n : ℕ) → There us (over_texts o) → over_node vs o n ≡ over_node us o n
  unfolding over_node over_texts
  over_known (macro x) n h = rw (extends_number us vs x p h.0) refl
  over_known group n h = refl

  mutual
    unfolding sym_bytes syms_bytes sym_texts syms_texts

    pub sym_known : (x : Sym) → There us (sym_texts x) → sym_bytes wd vs x ≡ sym_bytes wd us x
    sym_known (leaf s l) h = rw (leaf_known l h) refl
    sym_known (around s a x) h =
        let (i, j) = there_parts us (around_texts a) (sym_texts x) h in
        rw (around_known a i, sym_known x j) refl
    sym_known (over s o xs) h =
        let (i, j) = there_parts us (over_texts o) (syms_texts xs) h in
        rw (over_known o (count xs) i, syms_known xs j) refl

    pub syms_known : (xs : Syms) → There us (syms_texts xs) → syms_bytes wd vs xs ≡ syms_bytes wd us xs
    syms_known nil h = refl
    syms_known (cons x xs) h =
        let (i, j) = there_parts us (sym_texts x) (syms_texts xs) h in
        rw (sym_known x i, syms_known xs j) refl

  action_known : (a : Action) → There us (action_texts a) → action_text vs a ≡ action_text us a
  unfolding action_text action_texts
  action_known no_action h = refl
  action_known (user t) h = extends_number us vs t p h.0
  action_known (fallible t) h = extends_number us vs t p h.0
  action_known lookahead_action h = refl
  action_known lookbehind_action h = refl

  attribute_by_lem : (i : Text) (o : Option (Text × Text)) → There us (attribute_texts (record { id = i; argument = o })) → attribute_node vs (record { id = i; argument = o }) ≡ attribute_node us (record { id = i; argument = o })
  unfolding attribute_node attribute_texts
  attribute_by_lem i none h = rw (extends_number us vs i p h.0) refl
  attribute_by_lem i (some kv) h = rw (extends_number us vs i p h.0, extends_number us vs kv.0 p h.1.0, extends_number us vs kv.1 p h.1.1.0) refl

  attribute_known : (a : Attribute) → There us (attribute_texts a) → attribute_bytes wd vs a ≡ attribute_bytes wd us a
  unfolding attribute_bytes
  attribute_known a h = ap (node_bytes wd) (attribute_by_lem a.id a.argument h)

  condition_known : (c : Condition) → There us (condition_texts c) → condition_bytes wd vs c ≡ condition_bytes wd us c
  unfolding condition_bytes condition_node condition_texts
  condition_known c h = rw (extends_number us vs c.lhs p h.0, extends_number us vs c.rhs p h.1.0) refl

  pub alternative_known : (a : Alternative) → There us (alternative_texts a) → alternative_bytes wd vs a ≡ alternative_bytes wd us a
  unfolding alternative_bytes alternative_node alternative_texts
  alternative_known a h =
      let as' = texts_of_each attribute_texts a.attributes in
      let cs = texts_of_each condition_texts (conditions a.condition) in
      let (i, j) = there_parts us (action_texts a.action) (as' ++ (cs ++ syms_texts a.symbols)) h in
      let (k, l) = there_parts us as' (cs ++ syms_texts a.symbols) j in
      let (m, n) = there_parts us cs (syms_texts a.symbols) l in
      rw (
        action_known a.action i,
        bytes_known us attribute_texts (attribute_bytes wd vs) (attribute_bytes wd us) attribute_known a.attributes k,
        bytes_known us condition_texts (condition_bytes wd vs) (condition_bytes wd us) condition_known (conditions a.condition) m,
        syms_known a.symbols n,
      ) refl

  arguments_known : (xs : List Text) → There us xs → bytes_of_each (argument_bytes wd vs) xs ≡ bytes_of_each (argument_bytes wd us) xs
  unfolding bytes_of_each argument_bytes
  arguments_known [] h = refl
  arguments_known (x ∷ xs) h = rw (extends_number us vs x p h.0, arguments_known xs h.1) refl

  -- theorem: an item's bytes are by the numbers of its texts, which more texts keep
  pub there_bytes : (x : Item) → There us (item_texts x) → item_bytes wd vs x ≡ item_bytes wd us x
  unfolding item_bytes nonterminal_node item_texts
  there_bytes (item d) h =
      let (i, j) = there_parts us d.args (texts_of_each alternative_texts d.alternatives) h.1 in
      rw (
        extends_number us vs d.name p h.0,
        arguments_known d.args i,
        bytes_known us alternative_texts (alternative_bytes wd vs) (alternative_bytes wd us) alternative_known d.alternatives j,
      ) refl
  there_bytes (Item.terminal s o x) h = rw (extends_number us vs x p h.0) refl

  -- theorem: and so are those of several
  pub there_bytes_each : (xs : List Item) → There us (texts_of_each item_texts xs) → bytes_of_each (item_bytes wd vs) xs ≡ bytes_of_each (item_bytes wd us) xs
  there_bytes_each xs h = bytes_known us item_texts (item_bytes wd vs) (item_bytes wd us) there_bytes xs h
