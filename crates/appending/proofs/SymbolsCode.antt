-- Laws of `put_symbols`: symbol by symbol, what is to come makes the whole. Assumes nothing.
use mathlib.Core.Path.{◌≡◌, refl, ◌∙◌}
use mathlib.Core.Bool.{Bool}
use mathlib.Core.List.{List, []}
use Prim.Native.Nat.{ℕ, ◌+◌, ◌-◌, ◌<◌, ◌≤◌}
use native.Mathlib.Omega.{arith}
use borrow.Author.Rules.{rules}
use lib.ListN.{length}
use Rattle.parse_tree.specs.Plain.Tree.{Syms, nil, cons, count}
use Rattle.parse_tree.specs.Plain.References.{syms_texts}
use Rattle.parse_tree.specs.Working.Encode.{syms_bytes}
use Rattle.display.proofs.StandsLaws.{none_stand}
use Rattle.replacing.specs.Trees.{renamed_all}
use Rattle.expander.specs.declared.Ground.{Ground}
use Rattle.expander.specs.Ground.{size_in}
use Rattle.appending.specs.declared.Appended.{Appended}
use Rattle.appending.specs.declared.symbols.Coming.{Coming}
use Rattle.appending.specs.Pieces.{plainly, symbols_piece, Appending, Appends}
use Rattle.appending.specs.Symbols.{Referring, SomeReferring, PutsSymbols, PutsNext}
use Rattle.appending.proofs.PiecesLaws.{appends-none, appends_is}
use Rattle.appending.proofs.SymbolsFirst.{first_long, first_inside}

-- no symbols
none_appended : (s w : List ℕ) (g : Ground) (n lim : ℕ) (ps : List ℕ) (v : Appended) → Appending s g n lim ps w v → Appends s g n lim ps w v (symbols_piece g.width.bytes nil) v w
unfolding renamed_all syms_texts syms_bytes
none_appended s w g n lim ps v A = appends_is s g n lim ps w v (plainly []) v w (appends-none s g n lim ps w v A) (symbols_piece g.width.bytes nil) refl refl refl

-- w₀ is work before; of k symbols from p on, x.many are to come
module _ (s w₀ : List ℕ) (g : Ground) (n lim p k : ℕ) (v : Appended) where
  -- of the symbols ys
  pub record Sofar (ps : List ℕ) (four : Bool) (left e : ℕ) (ys : Syms) (w : List ℕ) (x : Coming) : Type 0 where
    pub zs : Syms
    pub many : count zs ≡ x.many
    pub going : Appending s g n lim ps w x.run.out
    pub referring : Referring s w g ps four left x.run.at e zs
    pub carry : (v' : Appended) (w' : List ℕ) → Appends s g n lim ps w x.run.out (symbols_piece g.width.bytes zs) v' w' → Appends s g n lim ps w₀ v (symbols_piece g.width.bytes ys) v' w'

  pub record Copying (w : List ℕ) (x : Coming) : Type 0 where
    pub some : SomeReferring s w g n lim x.run.at x.many x.run.out
    pub long : length w ≡ length w₀
    pub each : (ps : List ℕ) (four : Bool) (left e : ℕ) (ys : Syms) → count ys ≡ k → Appending s g n lim ps w₀ v → Referring s w₀ g ps four left p e ys → Sofar ps four left e ys w x

  pub copying_start : SomeReferring s w₀ g n lim p k v → Copying w₀ (record { many = k; run = record { at = p; out = v } })
  copying_start K = record {
    some = K;
    long = refl;
    each = λ ps four left e ys m A R. record { zs = ys; many = m; going = A; referring = R; carry = λ v' w' a. a };
  }

  module _ (w : List ℕ) (x : Coming) (c : Copying w x) where
    pub copying_some : SomeReferring s w g n lim x.run.at x.many x.run.out
    copying_some = c.some

    pub copying_long : length w ≡ length w₀
    copying_long = c.long

    -- ---- one more
    module _ (r : Coming) (w' : List ℕ) (N : PutsNext s w g n lim x r w') where
      more : (ps : List ℕ) (four : Bool) (left e : ℕ) (ys : Syms) → Sofar ps four left e ys w x → Sofar ps four left e ys w' r
      more ps four left e ys f =
          let o = N.each ps four left e f.zs f.many f.going f.referring in
          record { zs = o.zs; many = o.many; going = o.going; referring = o.referring; carry = λ v' w'' a. f.carry v' w'' (o.carry v' w'' a) }

      some_more : SomeReferring s w' g n lim r.run.at r.many r.run.out
      some_more =
          let K = c.some in
          let o = N.each K.places K.four K.left K.end K.symbols K.many K.going K.referring in
          record { places = K.places; four = K.four; left = K.left; end = K.end; symbols = o.zs; going = o.going; many = o.many; referring = o.referring }

      pub copying_next : Copying w' r
      copying_next = record { some = some_more; long = N.long ∙ c.long; each = λ ps four left e ys m A R. more ps four left e ys (c.each ps four left e ys m A R) }

      pub copying_less : 0 < x.many → g.end - r.run.at < g.end - x.run.at
      unfolding count size_in
      copying_less h = go c.some.symbols c.some.many c.some.referring
        where
          go : (ys : Syms) → count ys ≡ x.many → Referring s w g c.some.places c.some.four c.some.left x.run.at c.some.end ys → g.end - r.run.at < g.end - x.run.at
          go nil m R = absurd (omega arith)
          go (cons y ys) m R =
              omega (
                arith,
                N.on,
                first_long s w g n lim c.some.places c.some.four c.some.left c.some.end y ys x c.some.going R,
                first_inside s w g n lim c.some.places c.some.four c.some.left c.some.end y ys x c.some.going R,
              )

    -- ---- the end
    pub copying_done : x.many ≤ 0 → PutsSymbols s w₀ g n lim p k v x.run w
    unfolding PutsSymbols count
    copying_done h ps four left e ys m A R = go f.zs f.many f.referring f.carry
      where
        f : Sofar ps four left e ys w x
        f = c.each ps four left e ys m A R

        go : (zs : Syms) → count zs ≡ x.many → Referring s w g ps four left x.run.at e zs
            → ((v' : Appended) (w' : List ℕ) → Appends s g n lim ps w x.run.out (symbols_piece g.width.bytes zs) v' w' → Appends s g n lim ps w₀ v (symbols_piece g.width.bytes ys) v' w')
            → (x.run.at ≡ e) × Appends s g n lim ps w₀ v (symbols_piece g.width.bytes ys) x.run.out w
        go nil m S u = (omega (arith, none_stand s w g.m g.width.bytes four left (g.from + x.run.at) (g.from + e) S.stand), u x.run.out w (none_appended s w g n lim ps x.run.out f.going))
        go (cons z zs) m S u = absurd (omega arith)

pub ruleset copying = (rules, copying_start, copying_some, copying_long, copying_next, copying_less, copying_done)
