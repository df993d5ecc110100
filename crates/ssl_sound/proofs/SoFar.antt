-- What lines without a fault give is sound so far: tables, delay, zero cell and windows.
use Rattle.std.proofs.Common.{◌≡◌, ℕ, ◌+◌, ◌<◌, ◌≤◌, ◌&&◌, Bool, true, List, [], ◌∷◌, ◌++◌, map, length, replicate, Option, Some, None, refl, sym, ◌∙◌, subst, arith, length-append}
use Rattle.std.proofs.lemmas.Bool.{and_parts, leb-true, ltb-true, cond-true}
use Rattle.std.proofs.lemmas.Option.{none-some, same_Some}
use Rattle.std.specs.Prelude.{is_some, unwrap_or, nat_le}
use Rattle.ssl_syntax.specs.declared.line.CellName.{CellName}
use Rattle.ssl_syntax.specs.declared.line.ViewPart.{ViewPart}
use Rattle.ssl_syntax.specs.declared.line.SslBody.{SslBody}
use Rattle.ssl_syntax.specs.declared.line.SslBody.TheVariants as body
use Rattle.rtl_core.specs.declared.encodings.Encodings.{Encodings}
use Rattle.rtl_core.specs.declared.machine.WinShape.{WinShape}
use Rattle.rtl_core.specs.SoundMachine.{IsDelay, IsZero}
use Rattle.rtl_core.specs.SoundTerms.{IsWidth}
use Rattle.ssl_rules.specs.Names.{cell_number}
use Rattle.ssl_rules.specs.Widths.{is_width, is_delay, asked, first_differing}
use Rattle.ssl_rules.specs.Windows.{are_windows}
use Rattle.ssl_rules.specs.Views.{part_bits, are_parts_in_range}
use Rattle.ssl_rules.specs.Given.{Given, nothing_given, part_of, function_of, shape_of, with_body}
use Rattle.ssl_rules.specs.Checks.{has_place, has_room}
use Rattle.ssl_rules.specs.Faults.{IsFine}
use Rattle.ssl_sound.proofs.Tables.{AreSoundTables, no_tables-sound, cell-sound, cells-sound, view-sound, function-sound, file-of, cell-there}
use Rattle.ssl_sound.proofs.WindowCells.{AreFit, fit-more, fit-zero, zero-parts, windows-tested}
use Rattle.ssl_sound.proofs.ViewParts.{view-parts}

pub record IsSoundSoFar (g : Given) : Type 0 where
  pub tables : AreSoundTables g.tables
  pub delay : IsDelay (unwrap_or g.delay None)
  pub zeroed : IsZero g.tables.widths g.zeroed
  pub windows : (w : WinShape) → g.windows ≡ Some w → AreFit g.tables.widths g.zeroed w

pub nothing-sound : IsSoundSoFar nothing_given
nothing-sound = record { tables = no_tables-sound; delay = tt; zeroed = tt; windows = λ w e. absurd (none-some w e) }

-- ---- more cells

zero-more : (widths more : List ℕ) (zeroed : Option ℕ) → IsZero widths zeroed → IsZero (widths ++ more) zeroed
zero-more widths more None h = tt
zero-more widths more (Some c) h = let longer : length (widths ++ more) ≡ length widths + length more = length-append widths more in omega arith

pub width-in : (w : ℕ) → is_width w ≡ true → IsWidth w
width-in w e = let t = and_parts (nat_le 1 w) (nat_le w 64) e in (leb-true 1 w t.0, leb-true w 64 t.1)

-- the widths grow, or stay as they are
tables-more : (g h : Given) (more : List ℕ) → IsSoundSoFar g → AreSoundTables h.tables → h.tables.widths ≡ g.tables.widths ++ more → h.delay ≡ g.delay → h.zeroed ≡ g.zeroed → h.windows ≡ g.windows
    → IsSoundSoFar h
tables-more g h more s tables widths delay zeroed windows = record {
  tables = tables;
  delay = subst (λ d. IsDelay (unwrap_or d None)) (sym delay) s.delay;
  zeroed = subst (λ ws. IsZero ws h.zeroed) (sym widths) (subst (λ z. IsZero (g.tables.widths ++ more) z) (sym zeroed) (zero-more g.tables.widths more g.zeroed s.zeroed));
  windows = λ w e. subst (λ ws. AreFit ws h.zeroed w) (sym widths)
      (subst (λ z. AreFit (g.tables.widths ++ more) z w) (sym zeroed) (fit-more g.tables.widths more g.zeroed w (s.windows w (sym windows ∙ e))));
}

-- nothing of it changes but the tables' other parts
tables-same : (g h : Given) → IsSoundSoFar g → AreSoundTables h.tables → h.tables.widths ≡ g.tables.widths → h.delay ≡ g.delay → h.zeroed ≡ g.zeroed → h.windows ≡ g.windows → IsSoundSoFar h
tables-same g h s tables widths delay zeroed windows = record {
  tables = tables;
  delay = subst (λ d. IsDelay (unwrap_or d None)) (sym delay) s.delay;
  zeroed = subst (λ ws. IsZero ws h.zeroed) (sym widths) (subst (λ z. IsZero g.tables.widths z) (sym zeroed) s.zeroed);
  windows = λ w e. subst (λ ws. AreFit ws h.zeroed w) (sym widths) (subst (λ z. AreFit g.tables.widths z w) (sym zeroed) (s.windows w (sym windows ∙ e)));
}

-- ---- each kind of line

delay-in : (d : Option ℕ) → is_delay d ≡ true → IsDelay d
delay-in None e = tt
delay-in (Some bytes) e = let t = and_parts (nat_le 1 bytes) (nat_le bytes 32) e in (leb-true 1 bytes t.0, leb-true bytes 32 t.1)

zero-line : (enc : Encodings) (g : Given) (cell : CellName) → IsFine enc g (body.Zero cell) → IsSoundSoFar g → IsSoundSoFar (with_body enc g (body.Zero cell))
zero-line enc g cell p s =
    let z = zero-parts (cell_number g.tables cell) g.windows p.ranged in
    record {
      tables = s.tables;
      delay = s.delay;
      zeroed = subst (IsZero g.tables.widths) (sym z.is) (cell-there g.tables s.tables cell z.cell z.is);
      windows = λ w e. subst (λ o. AreFit g.tables.widths o w) (sym z.is) (fit-zero g.tables.widths g.zeroed z.cell w (z.apart w e) (s.windows w e));
    }

windows-line : (enc : Encodings) (g : Given) (o l i : CellName) (n : ℕ) → IsFine enc g (body.Windows o l i n) → IsSoundSoFar g → IsSoundSoFar (with_body enc g (body.Windows o l i n))
windows-line enc g o l i n p s =
    let shape : WinShape = shape_of g.tables o l i n in
    let named : Bool = is_some (cell_number g.tables o) && (is_some (cell_number g.tables l) && is_some (cell_number g.tables i)) in
    let t = and_parts named (are_windows g.tables g.zeroed shape) p.ranged in
    record {
      tables = s.tables;
      delay = s.delay;
      zeroed = s.zeroed;
      windows = λ w e. subst (AreFit g.tables.widths g.zeroed) (same_Some shape w e) (windows-tested g.tables g.zeroed shape t.1 p.same);
    }

place-left : (enc : Encodings) (g : Given) → has_place enc g ≡ true → length g.tables.files + length g.tables.functions < 4096
place-left enc g e = ltb-true (length g.tables.files + length g.tables.functions) 4096 e

room-left : (enc : Encodings) (g : Given) (n : ℕ) → has_room enc g n ≡ true → length g.tables.widths + n ≤ 120
room-left enc g n e = leb-true (length g.tables.widths + n) 120 e

view-line : (enc : Encodings) (g : Given) (name : List ℕ) (n w : ℕ) (parts : List ViewPart) → IsFine enc g (body.View name n w parts) → IsSoundSoFar g → IsSoundSoFar (with_body enc g (body.View name n w parts))
view-line enc g name n w parts p s =
    let t = and_parts (is_width w) (are_parts_in_range g.tables parts) p.ranged in
    let same : first_differing (λ p. asked w (part_bits g.tables p)) parts ≡ None =
    sym (cond-true (is_width w) (first_differing (λ p. asked w (part_bits g.tables p)) parts) None t.0) ∙ p.same in
    tables-same g (with_body enc g (body.View name n w parts)) s
    (view-sound g.tables name (map (part_of g.tables) parts) s.tables
    (file-of g.tables.widths w (map (part_of g.tables) parts) (view-parts g.tables s.tables w (width-in w t.0) parts t.1 same)) (place-left enc g p.few))
    refl refl refl refl

pub so_far-body : (enc : Encodings) (g : Given) (b : SslBody) → IsFine enc g b → IsSoundSoFar g → IsSoundSoFar (with_body enc g b)
so_far-body enc g (body.Align answer) p s = tables-same g (with_body enc g (body.Align answer)) s s.tables refl refl refl refl
so_far-body enc g (body.Delay bytes) p s = record { tables = s.tables; delay = delay-in bytes p.ranged; zeroed = s.zeroed; windows = s.windows }
so_far-body enc g (body.Cell name w) p s =
    tables-more g (with_body enc g (body.Cell name w)) (w ∷ []) s (cell-sound g.tables name w s.tables (width-in w p.ranged) (room-left enc g 1 p.few)) refl refl refl refl
so_far-body enc g (body.Cells name n w) p s =
    let t = and_parts (has_room enc g n) (has_place enc g) p.few in
    tables-more g (with_body enc g (body.Cells name n w)) (replicate n w) s
    (cells-sound g.tables name n w s.tables (width-in w p.ranged) (room-left enc g n t.0) (place-left enc g t.1)) refl refl refl refl
so_far-body enc g (body.View name n w parts) p s = view-line enc g name n w parts p s
so_far-body enc g (body.Zero cell) p s = zero-line enc g cell p s
so_far-body enc g (body.Windows o l i n) p s = windows-line enc g o l i n p s
so_far-body enc g (body.Function name ps e) p s =
    tables-same g (with_body enc g (body.Function name ps e)) s (function-sound g.tables name (function_of g ps e) s.tables (place-left enc g p.few)) refl refl refl refl
so_far-body enc g (body.Operand name ops e) p s = tables-same g (with_body enc g (body.Operand name ops e)) s s.tables refl refl refl refl
so_far-body enc g (body.Instruction name ops ts) p s = tables-same g (with_body enc g (body.Instruction name ops ts)) s s.tables refl refl refl refl
