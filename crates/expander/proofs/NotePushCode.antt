-- A symbol pushed: its record is put. Assumes nothing.
use mathlib.Core.Path.{◌≡◌, refl, ◌∙◌}
use mathlib.Core.Bool.{Bool, true, false}
use mathlib.Core.Logic.{◌⊎◌, inl, inr}
use mathlib.Core.List.{List}
use Prim.Native.Nat.{ℕ, ◌+◌, ◌*◌, ◌/◌, ◌<◌, ◌≤◌}
use native.Mathlib.Omega.{arith}
use borrow.Author.Rules.{rules}
use borrow.Author.Tests.{ltb-true, ltb-false}
use lib.Dec.{ltb}
use lib.ListN.{length, get_or}
use mir.Syntax.{w32}
use mir.Val.{Fits}
use Rattle.octets.proofs.ChoiceLaws.{by_pick}
use Rattle.texts.specs.Hash.{hash_of}
use Rattle.texts.specs.Forms.{stop}
use Rattle.texts.specs.Fields.{hash_at, cell_at, Chained, RecordsKept, RecordWritten}
use Rattle.texts.specs.Table.{texts, linked, RecordPut}
use Rattle.display.specs.declared.form.Form.{Form}
use Rattle.display.specs.Form.{text_form}
use Rattle.expander.specs.declared.Ground.{Ground}
use Rattle.expander.specs.Ground.{size_in, stage_in, top_of, key_at, printed_at, KeyAt, Grounded, Records, KeptAround}
use Rattle.expander.specs.Note.{Pushed}
use Rattle.expander.proofs.GroundLaws.{kept-around, stage_around, texts-around}

stop-small : (n : ℕ) → stop n < 4294967296
unfolding stop
stop-small n = by_pick (λ r. r < 4294967296) (ltb n 65536) (λ e. let h = ltb-true n 65536 e in omega arith) (λ _. omega arith)

module _ (s w : List ℕ) (g : Ground) (n p : ℕ) (f : Form) (d : Grounded s w g) (r : Records s w g n) (l : n < size_in g / 9) (key : KeyAt s w g p) (e : f ≡ text_form (printed_at s w g p)) where
  roof : g.keys + 24 * (size_in g / 9) ≤ length w
  unfolding top_of
  roof = omega (arith, d.fits, d.top)

  hash_is : f.hash ≡ hash_of (printed_at s w g p)
  unfolding text_form
  hash_is = rw e

  len_is : f.len ≡ stop (length (printed_at s w g p))
  unfolding text_form
  len_is = rw e

  pub push-room : g.keys + 24 * n + 24 ≤ length w
  push-room = omega (arith, roof)

  pub push-fits : Fits w32 f.len
  push-fits = record { fits = rw len_is (stop-small (length (printed_at s w g p))) }

  pub push-some : 0 < g.buckets
  push-some = d.filled

  pub push-linkable : g.buckets ≤ 4294967295
  push-linkable = d.linkable

  pub push-chained : Chained w g.keys g.buckets (linked n)
  push-chained = r.chained

  pub push-wide : g.keys + 24 * g.buckets ≤ length w
  push-wide = omega (arith, roof, d.few)

  module _ (w2 : List ℕ) (o : RecordPut w g.keys g.buckets n p f.hash f.len w2) where
    abbrev w1 : List ℕ
    w1 = o.between

    abbrev a : RecordWritten w g.keys n p f.hash f.len w1
    a = o.written

    abbrev k : RecordsKept w1 w2 g.keys (n + 1) g.buckets
    k = o.kept

    others : (i : ℕ) → (i < g.keys) ⊎ (g.slots ≤ i) → get_or w2 i 0 ≡ get_or w i 0
    others i (inl h) = k.before i h ∙ a.before i (omega arith)
    others i (inr h) = k.after i (omega (arith, d.fits)) (omega (arith, d.fits, d.few)) ∙ a.after i (omega (arith, d.fits))

    kept : KeptAround g w w2
    unfolding top_of
    kept = record { long = k.long ∙ a.long; others = λ i h. others i (elim h [ inl b ↦ inl b | inr b ↦ inr (omega arith) ]) }

    st : stage_in w2 g ≡ stage_in w g
    st = stage_around s w w2 g d (kept-around s w g d w2 kept)

    te : texts s w2 g.m ≡ texts s w g.m
    te = texts-around s w w2 g d (kept-around s w g d w2 kept)

    here : key_at w2 g n ≡ p
    unfolding key_at
    here = k.marks n ∙ a.mark

    before : (j : ℕ) → j < n → key_at w2 g j ≡ key_at w g j
    unfolding key_at
    before j h = k.marks j ∙ a.marks j (λ z. omega arith)

    keys_at_lem : (j : ℕ) (t : Bool) → ltb j n ≡ t → j < n + 1 → KeyAt s w2 g (key_at w2 g j)
    keys_at_lem j true u h = let v = ltb-true j n u in rw (st, te, before j v) (r.keys j v)
    keys_at_lem j false u h = let z : j ≡ n = omega (arith, ltb-false j n u) in rw (z, st, te, here) key

    hash_at_lem : (j : ℕ) (t : Bool) → ltb j n ≡ t → j < n + 1 → hash_at w2 g.keys j ≡ hash_of (printed_at s w2 g (key_at w2 g j))
    hash_at_lem j true u h = let v = ltb-true j n u in rw (st, te, before j v) (k.hashes j ∙ a.hashes j (λ z. omega arith) ∙ r.hashes j v)
    hash_at_lem j false u h = let z : j ≡ n = omega (arith, ltb-false j n u) in rw (z, st, te, here) (k.hashes n ∙ a.hash ∙ hash_is)

    length_at : (j : ℕ) (t : Bool) → ltb j n ≡ t → j < n + 1 → cell_at w2 g.keys j ≡ stop (length (printed_at s w2 g (key_at w2 g j)))
    length_at j true u h = let v = ltb-true j n u in rw (st, te, before j v) (k.cells j ∙ a.cells j (λ z. omega arith) ∙ r.lengths j v)
    length_at j false u h = let z : j ≡ n = omega (arith, ltb-false j n u) in rw (z, st, te, here) (k.cells n ∙ a.cell ∙ len_is)

    -- theorem: what `push` does
    pub pushed : Pushed s w g n p w2
    pushed = record {
      long = k.long ∙ a.long;
      here = here;
      before = before;
      records = record {
        few = omega arith;
        chained = o.chained;
        keys = λ j h. keys_at_lem j (ltb j n) refl h;
        hashes = λ j h. hash_at_lem j (ltb j n) refl h;
        lengths = λ j h. length_at j (ltb j n) refl h;
      };
      others = others;
    }

pub ruleset pushing = (rules, push-room, push-fits, push-some, push-linkable, push-chained, push-wide, pushed)
