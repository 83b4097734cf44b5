-- The symbol that was pushed last: its record and its command stand in work, and the span behind its code is that of the pile's top. Assumes nothing.
use mathlib.Core.Path.{◌≡◌, refl, sym, ap, ◌∙◌}
use mathlib.Core.Bool.{false, false≢true}
use mathlib.Core.List.{List, ◌∷◌, map}
use Prim.Native.Nat.{ℕ, zero, suc, ◌+◌, ◌-◌, ◌*◌, ◌<◌, ◌≤◌}
use native.Mathlib.Omega.{arith}
use lib.ListN.{length, get_or, drop, length-map}
use lib.Seq.{get_or-take, get_or-drop}
use Rattle.octets.specs.Plain.Numbers.{le_at}
use Rattle.octets.specs.Plain.Runs.{part}
use Rattle.parse_tree.specs.Plain.Tree.{Text, Item}
use Rattle.parse_tree.specs.Working.Nodes.{span_in, node_at}
use Rattle.parse_tree.specs.declared.syntax.Span.{Span}
use Rattle.texts.specs.Table.{texts}
use Rattle.passes.specs.Outcome.{Tree}
use Rattle.passes.specs.Macros.{Pending, span_of}
use Rattle.replacing.specs.Trees.{inner}
use Rattle.replacing.specs.Prints.{sym_at}
use Rattle.replacing.specs.Runs.{plain}
use Rattle.replacing.specs.Round.{node_span}
use Rattle.expander.specs.declared.Ground.{Ground}
use Rattle.expander.specs.declared.stage.Replaced.{Replaced}
use Rattle.expander.specs.Ground.{size_in, stage_in, key_at, KeyAt}
use Rattle.expander.specs.Held.{down}
use Rattle.expander.specs.Names.{Names}
use Rattle.expander.proofs.GroundLaws.{slots_top}
use Rattle.expander.proofs.NodeCodes.{by_code}
use Rattle.rounds.specs.Start.{Replacing, replaced_by}
use Rattle.rounds.proofs.StartMeans as starts

-- ---- lists
down-length : (f : ℕ → ℕ) (n : ℕ) → length (down f n) ≡ n
unfolding down
down-length f zero = refl
down-length f (suc n) = ap suc (down-length f n)

down-first : (f : ℕ → Span) (k : ℕ → ℕ) (n : ℕ) (x : Span) (xs : List Span) → map f (down k n) ≡ x ∷ xs → f (k (n - 1)) ≡ x
unfolding down
down-first f k zero x xs e = absurd (omega (arith, ap length e))
down-first f k (suc n) x xs e = let z : suc n - 1 ≡ n = omega arith in rw (z) (ap (λ (l : List Span). get_or l 0 x) e)

-- ---- the bytes of the stage are those of work
part-byte : (w : List ℕ) (a e p : ℕ) → p < e - a → get_or (part a e w) p 0 ≡ get_or w (a + p) 0
unfolding part
part-byte w a e p l = get_or-take (e - a) (drop a w) p 0 l ∙ get_or-drop a w p 0

part-number : (w : List ℕ) (a e n p : ℕ) → p + n ≤ e - a → le_at n (part a e w) p ≡ le_at n w (a + p)
unfolding le_at
part-number w a e zero p l = refl
part-number w a e (suc n) p l =
    let z : a + (p + 1) ≡ a + p + 1 = omega arith in
    cc (part-byte w a e p (omega arith), part-number w a e n (p + 1) (omega arith))

stage_span : (w : List ℕ) (g : Ground) (p : ℕ) → p + 9 ≤ size_in g → span_in (stage_in w g) (p + 1) ≡ span_in w (g.from + p + 1)
unfolding span_in stage_in size_in
stage_span w g p l =
    let y : g.from + (p + 1) ≡ g.from + p + 1 = omega arith in
    let z : g.from + (p + 1 + 4) ≡ g.from + p + 1 + 4 = omega arith in
    cc (part-number w g.from g.end 4 (p + 1) (omega arith), part-number w g.from g.end 4 (p + 1 + 4) (omega arith))

-- a symbol that is expanded: its span stands behind its code
key_span : (wd : ℕ) (t : List ℕ) (p : ℕ) → plain (node_at wd t p) ≡ false → node_span (node_at wd t p) ≡ span_in t (p + 1)
unfolding plain
key_span wd t p z = (by_code wd t p (λ e. false≢true (sym z ∙ ap plain e))).span z

module _ (s w : List ℕ) (g : Ground) (to : ℕ) (r : Replaced) (w' : List ℕ) (is : List Item) (K : List Text) (ms : List ℕ) (G : Tree) (h : Replacing s w g to r w' is K ms G) where
  abbrev last : ℕ
  last = key_at w' g (r.pile - 1)

  abbrev names : Names s w' g r.pile r.count (starts.places s w g to r w' is K ms G h)
  names = starts.names s w g to r w' is K ms G h

  -- theorem: the records are as many as the pile has symbols
  pub pile_count : length (replaced_by is K).1.pile ≡ r.pile
  pile_count =
      let f : ℕ → Pending = λ p. inner (sym_at false g.width.bytes (stage_in w g) (texts s w g.m) p) in
      let ps = (starts.slots s w g to r w' is K ms G h).pile in
      sym (ap length (starts.round s w g to r w' is K ms G h).pile) ∙ length-map ps f ∙ ap length (starts.held s w g to r w' is K ms G h).pile ∙ down-length (key_at w' g) r.pile

  -- theorem: the last record stands in work
  pub last-record : 0 < r.pile → g.keys + 24 * (r.pile - 1) + 24 ≤ length w'
  last-record l = let e = h.stages.ground in omega (arith, names.records.few, e.fits, slots_top s w' g e, e.top)

  last-inside : 0 < r.pile → last + 9 ≤ size_in g
  last-inside l = names.inside last (names.pushed (r.pile - 1) (omega arith))

  -- theorem: and its symbol's command, nine bytes at least
  pub last-room : 0 < r.pile → g.from + key_at w' g (r.pile - 1) + 9 ≤ length w'
  unfolding size_in
  last-room l = let e = h.stages.ground in omega (arith, last-inside l, e.ordered, e.inside)

  some : (x : Pending) (xs : List Pending) → (replaced_by is K).1.pile ≡ x ∷ xs → 0 < r.pile
  some x xs e = omega (arith, pile_count, ap length e)

  -- the span of its command in the stage, as it was read
  last-node : (x : Pending) (xs : List Pending) → (replaced_by is K).1.pile ≡ x ∷ xs → node_span (node_at g.width.bytes (stage_in w g) last) ≡ span_of x
  last-node x xs e =
      let f : ℕ → Span = λ p. node_span (node_at g.width.bytes (stage_in w g) p) in
      down-first f (key_at w' g) r.pile (span_of x) (map span_of xs)
      (ap (map f) (sym (starts.held s w g to r w' is K ms G h).pile) ∙ (starts.round s w g to r w' is K ms G h).spans ∙ ap (map span_of) e)

  -- theorem: behind its code stands the span of the pile's top
  pub last-span : (x : Pending) (xs : List Pending) → (replaced_by is K).1.pile ≡ x ∷ xs → span_in w' (g.from + key_at w' g (r.pile - 1) + 1) ≡ span_of x
  last-span x xs e =
      let l = some x xs e in
      let k : KeyAt s w' g last = names.records.keys (r.pile - 1) (omega arith) in
      sym (stage_span w' g last (last-inside l))
      ∙ sym (key_span g.width.bytes (stage_in w' g) last k.key)
      ∙ sym (ap (λ (t : List ℕ). node_span (node_at g.width.bytes t last)) (starts.stage_read s w g to r w' is K ms G h))
      ∙ last-node x xs e
