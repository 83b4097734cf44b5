-- What stands where nothing is written stays while items are appended; and the symbol for a parameter. Assumes nothing.
use mathlib.Core.Path.{◌≡◌, refl, sym, ap, ◌∙◌, subst}
use mathlib.Core.Bool.{Bool, true, false, cond}
use mathlib.Core.Logic.{◌⊎◌, inl, inr}
use mathlib.Core.List.{List, [], ◌∷◌, ◌++◌, append-nil}
use mathlib.Core.Option.{Option, none, some}
use Prim.Native.Nat.{ℕ, ◌+◌, ◌≤◌, ◌<◌, ◌^◌}
use native.Mathlib.Omega.{arith}
use lib.Dec.{eqb}
use lib.ListN.{length, length-append}
use Rattle.octets.specs.Working.Choice.{pick}
use Rattle.octets.specs.Plain.Numbers.{le_at}
use Rattle.octets.specs.Plain.Runs.{Lies, same_as}
use Rattle.octets.proofs.LiesLaws.{lies_split, lies_from}
use Rattle.octets.proofs.NumbersLaws.{length-le}
use Rattle.parse_tree.specs.Plain.Tree.{Text, Sym, Syms, nil, cons, count}
use Rattle.parse_tree.specs.Plain.Texts.{is_name, number}
use Rattle.parse_tree.specs.Plain.WriteTape.{bytes_of_each}
use Rattle.parse_tree.specs.Working.Nodes.{node_bytes}
use Rattle.parse_tree.specs.Working.Encode.{argument_bytes, sym_bytes}
use Rattle.parse_tree.specs.Working.Within.{Each, Uses}
use Rattle.parse_tree.proofs.FieldLaws.{byte_read, le-read_last}
use Rattle.std.specs.Prelude.{Option as Maybe, Some, None}
use Rattle.texts.specs.Table.{texts}
use Rattle.passes.specs.Macros.{argument_of}
use Rattle.laws.proofs.Flat.{syms_fit_lem}
use Rattle.laws.proofs.Rename.{number-tells}
use Rattle.resolve.proofs.CellsLaws.{lies_agree}
use Rattle.grades.specs.Skip.{skip_out}
use Rattle.grades.proofs.SkipMean.{skip-means}
use Rattle.display.proofs.StandsLaws.{first_stands, one_stands}
use Rattle.replacing.specs.Slots.{among}
use Rattle.replacing.specs.Trees.{renamed, renamed_all}
use Rattle.expander.specs.declared.Ground.{Ground}
use Rattle.expander.specs.Ground.{size_in, top_of, list_place}
use Rattle.expander.specs.Replace.{keys_of, keys_of_all}
use Rattle.appending.specs.declared.Appended.{Appended}
use Rattle.appending.specs.Pieces.{Piece, Appending, Appends}
use Rattle.appending.specs.Symbols.{Referring}
use Rattle.appending.proofs.PiecesLaws.{appends_on}
use Rattle.appending.proofs.SymbolsTrees.{each-parts}
use Rattle.appending.proofs.SymbolsStays.{texts-stay, referring_stays}
use Rattle.macro_expand.specs.declared.arguments.Call.{Call}
use Rattle.macro_expand.specs.Arguments.{parameters_long, argument_in, ReadableCall, argument_for}
use Rattle.macro_expand.specs.PutIn.{Placed, Framed}
use Rattle.macro_expand.proofs.ArgumentsCode.{long_more, long_none}

-- ---- what stands in the definition

-- the first part of it, and the rest
pub placed_split : (w : List ℕ) (g : Ground) (v : Appended) (a e : ℕ) (xs ys : List ℕ) → Placed w g v a e (xs ++ ys) → Placed w g v a (a + length xs) xs × Placed w g v (a + length xs) e ys
placed_split w g v a e xs ys h = (
  record { lies = l.0; off = first h.off; before = omega (arith, l.1.end, h.before); behind = omega (arith, l.1.end, h.behind) },
  record { lies = l.1; off = second h.off; before = h.before; behind = h.behind },
)
  where
    l : Lies w a xs (a + length xs) × Lies w (a + length xs) ys e
    l = lies_split w a e xs ys h.lies

    first : (e ≤ list_place g 0) ⊎ ((top_of g ≤ a) × (e ≤ v.to)) → (a + length xs ≤ list_place g 0) ⊎ ((top_of g ≤ a) × (a + length xs ≤ v.to))
    first (inl z) = inl (omega (arith, l.1.end))
    first (inr z) = inr (z.0, omega (arith, l.1.end, z.1))

    second : (e ≤ list_place g 0) ⊎ ((top_of g ≤ a) × (e ≤ v.to)) → (e ≤ list_place g 0) ⊎ ((top_of g ≤ a + length xs) × (e ≤ v.to))
    second (inl z) = inl z
    second (inr z) = inr (omega (arith, z.0), z.1)

module _ (s : List ℕ) (g : Ground) (n lim : ℕ) (ps : List ℕ) (w : List ℕ) (v : Appended) (h : Appending s g n lim ps w v) (x : Piece) (v' : Appended) (w' : List ℕ) (a : Appends s g n lim ps w v x v' w') where
  -- theorem: it stays
  pub placed_stays : (p e : ℕ) (xs : List ℕ) → Placed w g v p e xs → Placed w' g v' p e xs
  placed_stays p e xs z = record {
    lies = lies_agree w w' p e xs a.long (omega (arith, z.behind)) (λ i j k. a.kept i (go i j k z.off)) z.lies;
    off = on_off z.off;
    before = omega (arith, z.before, on);
    behind = rw a.long z.behind;
  }
    where
      on : v.to ≤ v'.to
      on = appends_on s g n lim ps w v x v' w' h a

      on_off : (e ≤ list_place g 0) ⊎ ((top_of g ≤ p) × (e ≤ v.to)) → (e ≤ list_place g 0) ⊎ ((top_of g ≤ p) × (e ≤ v'.to))
      on_off (inl y) = inl y
      on_off (inr y) = inr (y.0, omega (arith, y.1, on))

      go : (i : ℕ) → p ≤ i → i < e → (e ≤ list_place g 0) ⊎ ((top_of g ≤ p) × (e ≤ v.to)) → (i < list_place g 0) ⊎ ((top_of g ≤ i) × (i < v.to)) ⊎ (lim ≤ i)
      go i j k (inl y) = inl (omega arith)
      go i j k (inr y) = inr (inl (omega (arith, y.0), omega (arith, y.1)))

-- theorem: and so does the call
module _ (s : List ℕ) (g : Ground) (n lim : ℕ) (c : Call) (w : List ℕ) (v : Appended) (ps : List ℕ) (names : List Text) (args : Syms) (F : Framed s w g n lim c v ps names args) (x : Piece) (v' : Appended) (w' : List ℕ) (a : Appends s g n lim ps w v x v' w') where
  same : texts s w' g.m ≡ texts s w g.m
  same = texts-stay s g n lim ps w v F.going x v' w' a

  pub frame_stays : Framed s w' g n lim c v' ps names args
  frame_stays = record {
    going = a.going;
    four = F.four;
    left = F.left;
    from = F.from;
    end = F.end;
    at = F.at;
    referring = referring_stays s g n lim ps w v F.going x v' w' a F.four F.left F.from F.end args F.referring;
    four' = F.four';
    upto = F.upto;
    uses = subst (λ (ts : List Text). Each (Uses F.four' g.width.bytes ts is_name) names) (sym same) F.uses;
    parameters = subst (λ (ts : List Text). Placed w' g v' c.params F.upto (bytes_of_each (argument_bytes g.width.bytes ts) names)) (sym same)
        (placed_stays s g n lim ps w v F.going x v' w' a c.params F.upto (bytes_of_each (argument_bytes g.width.bytes (texts s w g.m)) names) F.parameters);
    named = F.named;
    called = F.called;
    definition = rw a.long F.definition;
  }

-- ---- parameters
argument-long : (wd : ℕ) (ts : List Text) (t : Text) → length (argument_bytes wd ts t) ≡ 1 + wd
unfolding argument_bytes node_bytes
argument-long wd ts t = omega (arith, length-le wd (number ts t))

pub parameters_long_lem : (wd : ℕ) (ts : List Text) (ps : List Text) → length (bytes_of_each (argument_bytes wd ts) ps) ≡ parameters_long wd (length ps)
unfolding bytes_of_each
parameters_long_lem wd ts [] = sym (long_none wd)
parameters_long_lem wd ts (p ∷ ps) = omega (arith, length-append (argument_bytes wd ts p) (bytes_of_each (argument_bytes wd ts) ps), argument-long wd ts p, parameters_long_lem wd ts ps, long_more wd (length ps))

parameter_read : (wd : ℕ) (ts : List Text) (w : List ℕ) (a e : ℕ) (t : Text) → number ts t < 256 ^ wd → Lies w a (argument_bytes wd ts t) e → le_at wd w (a + 1) ≡ number ts t
unfolding argument_bytes node_bytes
parameter_read wd ts w a e t k l = (le-read_last w e (a + 1) wd k (byte_read w e a (a + 1) refl l).1).0

-- ---- the first of symbols that have references, and the others
module _ (s w : List ℕ) (g : Ground) (ps : List ℕ) (four : Bool) (left p e : ℕ) (x : Sym) (xs : Syms) (R : Referring s w g ps four left p e (cons x xs)) where
  abbrev next : ℕ
  next = p + length (sym_bytes g.width.bytes (texts s w g.m) x)

  next_is : g.from + next ≡ g.from + p + length (sym_bytes g.width.bytes (texts s w g.m) x)
  next_is = omega arith

  keys : Each (λ (q : ℕ). among q ps ≡ true) (keys_of g.width.bytes (texts s w g.m) x p) × Each (λ (q : ℕ). among q ps ≡ true) (keys_of_all g.width.bytes (texts s w g.m) xs next)
  unfolding keys_of_all
  keys = each-parts (λ (q : ℕ). among q ps ≡ true) (keys_of g.width.bytes (texts s w g.m) x p) (keys_of_all g.width.bytes (texts s w g.m) xs next) R.referred

  pub referring_behind : Referring s w g ps four left next e xs
  referring_behind = record {
    stand = rw next_is (first_stands s w g.m g.width.bytes four left (g.from + p) (g.from + e) x xs R.stand).1;
    inside = R.inside;
    levels = R.levels;
    referred = keys.1;
  }

  pub referring_first : Referring s w g ps four left p next (cons x nil)
  unfolding keys_of_all
  referring_first = record {
    stand = rw next_is (one_stands s w g.m g.width.bytes four left (g.from + p) (g.from + p + length (sym_bytes g.width.bytes (texts s w g.m) x)) x (first_stands s w g.m g.width.bytes four left (g.from + p) (g.from + e) x xs R.stand).0);
    inside = omega (arith, R.inside, referring_behind.stand.lies.end);
    levels = R.levels;
    referred = subst (Each (λ (q : ℕ). among q ps ≡ true)) (sym (append-nil (keys_of g.width.bytes (texts s w g.m) x p))) keys.0;
  }

-- ---- the symbol for a parameter
pub record Answers (s w : List ℕ) (g : Ground) (ps : List ℕ) (four : Bool) (left p : ℕ) (x : Sym) : Type 0 where
  pub from : ℕ
  pub end : ℕ
  pub at : p ≡ g.from + from
  pub referring : Referring s w g ps four left from end (cons x nil)

abbrev pub Finds : List ℕ → List ℕ → Ground → List ℕ → Bool → ℕ → Maybe ℕ → Option Sym → Type 0
Finds s w g ps four left None none = Unit {0}
Finds s w g ps four left None (some x) = ⊥
Finds s w g ps four left (Some p) none = ⊥
Finds s w g ps four left (Some p) (some x) = Answers s w g ps four left p x

module _ (s w : List ℕ) (g : Ground) (places : List ℕ) (four : Bool) (left : ℕ) (four' : Bool) (t : Text) (items : g.from ≤ g.end) where
  abbrev ts : List Text
  ts = texts s w g.m

  abbrev wd : ℕ
  wd = g.width.bytes

  finds : (names : List Text) (xs : Syms) (a e q d : ℕ) → length names ≡ count xs → Each (Uses four' wd ts is_name) names → Lies w a (bytes_of_each (argument_bytes wd ts) names) e
      → Referring s w g places four left q d xs → Finds s w g places four left (argument_in wd g.end w (number ts t) (length names) a (g.from + q)) (argument_of names xs t)
  unfolding bytes_of_each count argument_in size_in pick
  finds [] xs a e q d m u l R = tt
  finds (p ∷ names) nil a e q d m u l R = absurd (omega arith)
  finds (p ∷ names) (cons x xs) a e q d m u l R =
      let k = lies_split w a e (argument_bytes wd ts p) (bytes_of_each (argument_bytes wd ts) names) l in
      let r = parameter_read wd ts w a (a + length (argument_bytes wd ts p)) p u.0.1 k.0 in
      let z : a + length (argument_bytes wd ts p) ≡ a + (1 + wd) = ap (λ (i : ℕ). a + i) (argument-long wd ts p) in
      let N = referring_behind s w g places four left q d x xs R in
      let O = referring_first s w g places four left q d x xs R in
      let j = skip-means wd ts (cons x nil) (syms_fit_lem wd ts four (cons x nil) left O.stand.within) w (g.from + q) (g.from + (q + length (sym_bytes wd ts x))) g.end (bound O.inside) O.stand.lies in
      go (same_as t p) refl (ap (eqb (number ts t)) r ∙ number-tells ts p t u.0.0) j O
      (finds names xs (a + (1 + wd)) e (q + length (sym_bytes wd ts x)) d (omega arith) u.1 (lies_from z k.1) N)
    where
      bound : {i : ℕ} → i ≤ size_in g → g.from + i ≤ g.end
      bound {i} h = omega (arith, items)

      go : (b : Bool) → same_as t p ≡ b → eqb (number ts t) (le_at wd w (a + 1)) ≡ same_as t p → skip_out wd g.end w (g.from + q) g.end 1 ≡ g.from + (q + length (sym_bytes wd ts x))
          → Referring s w g places four left q (q + length (sym_bytes wd ts x)) (cons x nil)
          → Finds s w g places four left (argument_in wd g.end w (number ts t) (length names) (a + (1 + wd)) (g.from + (q + length (sym_bytes wd ts x)))) (argument_of names xs t)
          → Finds s w g places four left (pick (eqb (number ts t) (le_at wd w (a + 1))) (Some (g.from + q)) (argument_in wd g.end w (number ts t) (length names) (a + (1 + wd)) (skip_out wd g.end w (g.from + q) g.end 1)))
          (cond (same_as t p) (some x) (argument_of names xs t))
      go true e y j O f = rw (y, e) (record { from = q; end = q + length (sym_bytes wd ts x); at = refl; referring = O })
      go false e y j O f = rw (y, e, j) f

module _ (s w : List ℕ) (g : Ground) (n lim : ℕ) (c : Call) (v : Appended) (ps : List ℕ) (names : List Text) (args : Syms) (F : Framed s w g n lim c v ps names args) where
  pub frame_readable : ReadableCall g c w
  frame_readable = record {
    narrow = F.going.ground.narrow;
    wide = F.going.ground.wide;
    parameters = omega (arith, F.parameters.lies.end, F.parameters.behind, parameters_long_lem g.width.bytes (texts s w g.m) names, ap (parameters_long g.width.bytes) F.named);
    items = F.going.behind;
    definition = F.definition;
  }

  -- theorem: what is found for the parameter t
  pub frame_finds : (t : Text) (k : ℕ) → k ≡ number (texts s w g.m) t
      → Finds s w g ps F.four F.left (argument_for g c w k) (argument_of names args t)
  unfolding argument_for
  frame_finds t k e =
      let z = finds s w g ps F.four F.left F.four' t F.going.ground.ordered names args c.params F.upto F.from F.end (sym F.named ∙ sym F.called) F.uses F.parameters.lies F.referring in
      rw (e, F.named, F.at) z

-- ---- renaming all together
pub argument-renamed : (names : List Text) (xs : Syms) (t : Text) → argument_of names (renamed_all xs) t ≡ elim (argument_of names xs t) [ none ↦ none | some x ↦ some (renamed x) ]
unfolding renamed_all
argument-renamed [] xs t = refl
argument-renamed (p ∷ names) nil t = refl
argument-renamed (p ∷ names) (cons x xs) t = go (same_as t p) (argument-renamed names xs t)
  where
    go : (b : Bool) → argument_of names (renamed_all xs) t ≡ elim (argument_of names xs t) [ none ↦ none | some x ↦ some (renamed x) ]
        → ◌≡◌ {A = Option Sym} (cond b (some (renamed x)) (argument_of names (renamed_all xs) t)) (elim (cond b (some x) (argument_of names xs t)) [ none ↦ none | some x ↦ some (renamed x) ])
    go true h = refl
    go false h = h
