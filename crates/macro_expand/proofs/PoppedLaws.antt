-- Laws of a symbol that was taken off the pile: what stands at its place, and its reference. Assumes nothing.
use mathlib.Core.Path.{◌≡◌, refl, ap, ◌∙◌, subst}
use mathlib.Core.Bool.{Bool, true}
use mathlib.Core.List.{List, [], ◌∷◌, ◌++◌, append-nil, append_assoc}
use Prim.Native.Nat.{ℕ, ◌+◌, ◌≤◌}
use native.Mathlib.Omega.{arith}
use lib.ListN.{length-append}
use Rattle.octets.specs.Plain.Numbers.{le_at, le, Bytes}
use Rattle.octets.specs.Plain.Runs.{Lies}
use Rattle.parse_tree.specs.Plain.Tree.{Text, Sym, sym_span, ambiguous, bare, quoted, regex, nonterminal, lookahead, lookbehind, error, repeat, choose, name, macro, group, leaf, around, over, nil}
use Rattle.parse_tree.specs.Plain.WriteTape.{op_code}
use Rattle.parse_tree.specs.Plain.Display.{print}
use Rattle.parse_tree.specs.Working.Nodes.{span_bytes, symbol_bytes, node_bytes, leaf_code, leaf_operand}
use Rattle.parse_tree.specs.Working.Encode.{leaf_node, around_node, over_node, sym_bytes, syms_bytes}
use Rattle.parse_tree.specs.declared.syntax.Span.{Span}
use Rattle.texts.specs.Table.{texts}
use Rattle.laws.specs.Keys.{Expands}
use Rattle.precedence.proofs.WriteMean.{span_long, span_there}
use Rattle.replacing.specs.Slots.{among}
use Rattle.replacing.specs.Trees.{is_key}
use Rattle.expander.specs.declared.Ground.{Ground}
use Rattle.expander.specs.Ground.{size_in, printed_at}
use Rattle.expander.specs.Names.{SomeNamed, NameRoom}
use Rattle.expander.specs.Replace.{keys_of, keys_of_all}
use Rattle.expander.proofs.KeysLaws.{stands_print}
use Rattle.appending.specs.declared.Appended.{Appended}
use Rattle.appending.proofs.SymbolsTrees.{own_key}
use Rattle.appending.proofs.BuiltRoom.{names_room}
use Rattle.macro_expand.specs.Expand.{Popped, SomePopped, IsAny}

-- ---- one of some kind is one of any
pub popped_any : (P : Sym → Type 0) (s w : List ℕ) (g : Ground) (n lim q : ℕ) (v : Appended) → SomePopped P s w g n lim q v → SomePopped IsAny s w g n lim q v
popped_any P s w g n lim q v K = record { places = K.places; four = K.four; left = K.left; end = K.end; symbol = K.symbol; popped = K.popped; is = tt }

-- ---- trees
pub expands_key : (y : Sym) → Expands y → is_key y ≡ true
expands_key (leaf s (ambiguous x)) k = absurd k
expands_key (leaf s (bare x)) k = absurd k
expands_key (leaf s (quoted x)) k = absurd k
expands_key (leaf s (regex x)) k = absurd k
expands_key (leaf s (nonterminal x)) k = absurd k
expands_key (leaf s lookahead) k = refl
expands_key (leaf s lookbehind) k = refl
expands_key (leaf s error) k = absurd k
expands_key (around s (repeat o) x) k = refl
expands_key (around s choose x) k = absurd k
expands_key (around s (name m n) x) k = absurd k
expands_key (over s o xs) k = refl

-- the code of a symbol's command
unfoldable pub sym_code : List Text → Sym → ℕ
sym_code ts (leaf s l) = leaf_code (leaf_node ts l)
sym_code ts (around s (repeat o) x) = 38
sym_code ts (around s choose x) = 39
sym_code ts (around s (name m n) x) = 40
sym_code ts (over s (macro m) xs) = 37
sym_code ts (over s group xs) = 41

-- a symbol's bytes: a code, its span, and more
pub record Spanned (c : ℕ) (sp : Span) (xs : List ℕ) : Type 0 where
  pub more : List ℕ
  pub is : xs ≡ c ∷ (span_bytes sp ++ more)

spanned_more : (sp : Span) (c : ℕ) (ys zs xs : List ℕ) → xs ≡ (c ∷ (span_bytes sp ++ ys)) ++ zs → Spanned c sp xs
spanned_more sp c ys zs xs e = record { more = ys ++ zs; is = e ∙ ap (λ (r : List ℕ). c ∷ r) (append_assoc (span_bytes sp) ys zs) }

module _ (wd : ℕ) (ts : List Text) where
  pub sym_spanned : (y : Sym) → Spanned (sym_code ts y) (sym_span y) (sym_bytes wd ts y)
  unfolding sym_code sym_bytes node_bytes symbol_bytes around_node over_node
  sym_spanned (leaf s l) = record { more = leaf_operand wd (leaf_node ts l); is = refl }
  sym_spanned (around s (repeat o) x) = spanned_more s 38 (op_code o ∷ []) (sym_bytes wd ts x) _ refl
  sym_spanned (around s choose x) = record { more = sym_bytes wd ts x; is = refl }
  sym_spanned (around s (name m n) x) = spanned_more s 40 _ (sym_bytes wd ts x) _ refl
  sym_spanned (over s (macro m) xs) = spanned_more s 37 _ (syms_bytes wd ts xs) _ refl
  sym_spanned (over s group xs) = spanned_more s 41 _ (syms_bytes wd ts xs) _ refl

-- ---- any symbol that was taken off the pile
module _ (s w : List ℕ) (g : Ground) (n lim : ℕ) (ps : List ℕ) (four : Bool) (left q e : ℕ) (y : Sym) (v : Appended) (R : Popped s w g n lim ps four left q e y v) where
  -- it has a reference
  pub popped_here : among q ps ≡ true
  unfolding keys_of_all
  popped_here =
      let z = append-nil (keys_of g.width.bytes (texts s w g.m) y q) in
      (own_key g.width.bytes (texts s w g.m) (λ (p : ℕ). among p ps ≡ true) y nil q (expands_key y R.expands) (rw z R.referred)).0

  pub popped_print : printed_at s w g q ≡ print y
  popped_print = stands_print s w g R.going.ground four left q e y R.stands R.inside R.levels

  abbrev code : ℕ
  code = sym_code (texts s w g.m) y

  spanned : Spanned code (sym_span y) (sym_bytes g.width.bytes (texts s w g.m) y)
  spanned = sym_spanned g.width.bytes (texts s w g.m) y

  lies_spanned : Lies w (g.from + q) (code ∷ (span_bytes (sym_span y) ++ spanned.more)) (g.from + e)
  lies_spanned = subst (λ (xs : List ℕ). Lies w (g.from + q) xs (g.from + e)) spanned.is R.stands.lies

  -- nine bytes at least
  pub popped_room : g.from + q + 9 ≤ g.end
  unfolding size_in
  popped_room = omega (arith, lies_spanned.end, span_long (sym_span y), length-append (span_bytes (sym_span y)) spanned.more, R.inside, R.going.ground.ordered)

  pub popped_named : SomeNamed s w g n v.count q
  popped_named = record { places = ps; names = R.going.names; here = popped_here }

  pub popped_names_room : NameRoom w g v.count q
  popped_names_room = names_room s w g n v.count ps R.going.names R.going.built q popped_here

  -- theorem: the eight bytes behind its code are its span
  pub popped_span : Bytes w → le 8 (le_at 8 w (g.from + q + 1)) ≡ span_bytes (sym_span y)
  popped_span b = span_there w (g.from + q) (g.from + e) code (sym_span y) spanned.more b lies_spanned
