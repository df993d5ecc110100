-- The signs of lines, by their places in the list of signs.
use Rattle.std.specs.Prelude.{ℕ}

-- `...`
abbrev pub dots : ℕ
dots = 0

-- `%next` and `%pc`
abbrev pub next_sign : ℕ
next_sign = 4

abbrev pub pc_sign : ℕ
pc_sign = 5

-- `:=`, `!=` and `=>`
abbrev pub becomes : ℕ
becomes = 6

abbrev pub differs : ℕ
differs = 7

abbrev pub guards : ℕ
guards = 8

-- `(`, `)`, `[` and `]`
abbrev pub open_paren : ℕ
open_paren = 15

abbrev pub close_paren : ℕ
close_paren = 16

abbrev pub open_bracket : ℕ
open_bracket = 17

abbrev pub close_bracket : ℕ
close_bracket = 18

-- `,`, `;` and `:`
abbrev pub comma : ℕ
comma = 19

abbrev pub semicolon : ℕ
semicolon = 20

abbrev pub colon : ℕ
colon = 21

-- `=`, `&` and `|`
abbrev pub equals : ℕ
equals = 22

abbrev pub ampersand : ℕ
ampersand = 23

abbrev pub bar : ℕ
bar = 24

-- `-`, `*` and `~`
abbrev pub minus : ℕ
minus = 26

abbrev pub star : ℕ
star = 27

abbrev pub tilde : ℕ
tilde = 31
