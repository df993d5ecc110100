-- The loops over parts, parameters, operands and transfers.
use Rattle.std.proofs.Common.{◌≡◌, ℕ, ◌<◌, length, true, false, List, [], ◌∷◌, ◌++◌, Err, sym, ap, ◌∙◌, subst}
use Rattle.text_lex.specs.declared.token.Token.{Token}
use Rattle.ssl_syntax.specs.declared.line.ViewPart.{ViewPart}
use Rattle.ssl_syntax.specs.declared.line.Param.{Param}
use Rattle.ssl_syntax.specs.declared.line.SslTransfer.{SslTransfer}
use Rattle.line_reading.specs.declared.stop.Stop.{Stop}
use Rattle.line_reading.specs.Signs.{comma, semicolon}
use Rattle.line_reading.specs.Spelling.{listed, name_toks}
use Rattle.ssl_syntax.specs.Transfers.{transfer_toks}
use Rattle.ssl_syntax.specs.Lines.{part_toks, param_toks}
use Rattle.line_reading.specs.Readings.{Reader, fails, reads, Told, begins, without, any_name, items}
use Rattle.ssl_syntax.specs.TransferReaders.{read_transfer}
use Rattle.ssl_syntax.specs.LineReaders.{read_view_part, read_param}
use Rattle.line_reading.proofs.Loops.{IsShorter, shorter_from_sound, Going, item_falls, go_first, go_on, go_end, go_stops, first_stops, behind_sign, no_sign}
use Rattle.ssl_syntax.proofs.TransferSound.{IsTransfer, transfer_sound}
use Rattle.line_reading.proofs.NameReads.{Always, name_sound}
use Rattle.ssl_syntax.proofs.LineSound.{part_sound, param_sound}

part_shorter : IsShorter read_view_part
part_shorter = shorter_from_sound read_view_part part_toks Always part_sound

pub part_first : (whole : List Token) (x : ViewPart) (out : List ViewPart) (ts : List Token) → read_view_part whole ≡ reads x ts → out ≡ x ∷ [] → Going comma read_view_part whole out ts
part_first whole x out ts h is = go_first comma read_view_part whole x out ts h is

pub part_on : (whole : List Token) (out new : List ViewPart) (ts more : List Token) (x : ViewPart) (mid : List Token) → Going comma read_view_part whole out ts → more ≡ without comma ts → begins comma ts ≡ true → read_view_part more ≡ reads x mid → new ≡ out ++ x ∷ [] → Going comma read_view_part whole new mid
part_on whole out new ts more x mid g behind b h is = go_on comma read_view_part whole out new ts x mid part_shorter g b (ap read_view_part (sym (behind_sign comma ts more behind b)) ∙ h) is

pub part_end : (whole : List Token) (out : List ViewPart) (ts more : List Token) → Going comma read_view_part whole out ts → more ≡ without comma ts → begins comma ts ≡ false → items comma read_view_part whole ≡ reads out more
part_end whole out ts more g behind b = go_end comma read_view_part whole out ts g b ∙ ap (λ m. reads out m) (sym (no_sign comma ts more behind b))

pub part_stops : (whole : List Token) (out : List ViewPart) (ts behind : List Token) (stop : Stop) (rest more : List Token) → Going comma read_view_part whole out ts → behind ≡ without comma ts → begins comma ts ≡ true → Told {A = ViewPart} (Err stop) rest (read_view_part behind) → Told {A = List ViewPart} (Err stop) more (items comma read_view_part whole)
part_stops whole out ts behind stop rest more g is b h =
    go_stops comma read_view_part whole out ts stop rest more g b (subst (λ us. Told {A = ViewPart} (Err stop) rest (read_view_part us)) (behind_sign comma ts behind is b) h)

pub part_first_stops : (whole : List Token) (stop : Stop) (rest more : List Token) → Told {A = ViewPart} (Err stop) rest (read_view_part whole) → Told {A = List ViewPart} (Err stop) more (items comma read_view_part whole)
part_first_stops whole stop rest more h = first_stops comma read_view_part whole stop rest more h

pub part_falls : (ts more : List Token) (x : ViewPart) (mid : List Token) → more ≡ without comma ts → begins comma ts ≡ true → read_view_part more ≡ reads x mid → length mid < length ts
part_falls ts more x mid behind b h = item_falls comma read_view_part ts more x mid part_shorter behind b h

pub ruleset part_laws = (part_first, part_on, part_end, part_stops, part_first_stops)

param_shorter : IsShorter read_param
param_shorter = shorter_from_sound read_param param_toks Always param_sound

pub param_first : (whole : List Token) (x : Param) (out : List Param) (ts : List Token) → read_param whole ≡ reads x ts → out ≡ x ∷ [] → Going comma read_param whole out ts
param_first whole x out ts h is = go_first comma read_param whole x out ts h is

pub param_on : (whole : List Token) (out new : List Param) (ts more : List Token) (x : Param) (mid : List Token) → Going comma read_param whole out ts → more ≡ without comma ts → begins comma ts ≡ true → read_param more ≡ reads x mid → new ≡ out ++ x ∷ [] → Going comma read_param whole new mid
param_on whole out new ts more x mid g behind b h is = go_on comma read_param whole out new ts x mid param_shorter g b (ap read_param (sym (behind_sign comma ts more behind b)) ∙ h) is

pub param_end : (whole : List Token) (out : List Param) (ts more : List Token) → Going comma read_param whole out ts → more ≡ without comma ts → begins comma ts ≡ false → items comma read_param whole ≡ reads out more
param_end whole out ts more g behind b = go_end comma read_param whole out ts g b ∙ ap (λ m. reads out m) (sym (no_sign comma ts more behind b))

pub param_stops : (whole : List Token) (out : List Param) (ts behind : List Token) (stop : Stop) (rest more : List Token) → Going comma read_param whole out ts → behind ≡ without comma ts → begins comma ts ≡ true → Told {A = Param} (Err stop) rest (read_param behind) → Told {A = List Param} (Err stop) more (items comma read_param whole)
param_stops whole out ts behind stop rest more g is b h =
    go_stops comma read_param whole out ts stop rest more g b (subst (λ us. Told {A = Param} (Err stop) rest (read_param us)) (behind_sign comma ts behind is b) h)

pub param_first_stops : (whole : List Token) (stop : Stop) (rest more : List Token) → Told {A = Param} (Err stop) rest (read_param whole) → Told {A = List Param} (Err stop) more (items comma read_param whole)
param_first_stops whole stop rest more h = first_stops comma read_param whole stop rest more h

pub param_falls : (ts more : List Token) (x : Param) (mid : List Token) → more ≡ without comma ts → begins comma ts ≡ true → read_param more ≡ reads x mid → length mid < length ts
param_falls ts more x mid behind b h = item_falls comma read_param ts more x mid param_shorter behind b h

pub ruleset param_laws = (param_first, param_on, param_end, param_stops, param_first_stops)

transfer_shorter : IsShorter read_transfer
transfer_shorter = shorter_from_sound read_transfer transfer_toks IsTransfer transfer_sound

pub transfer_first : (whole : List Token) (x : SslTransfer) (out : List SslTransfer) (ts : List Token) → read_transfer whole ≡ reads x ts → out ≡ x ∷ [] → Going semicolon read_transfer whole out ts
transfer_first whole x out ts h is = go_first semicolon read_transfer whole x out ts h is

pub transfer_on : (whole : List Token) (out new : List SslTransfer) (ts more : List Token) (x : SslTransfer) (mid : List Token) → Going semicolon read_transfer whole out ts → more ≡ without semicolon ts → begins semicolon ts ≡ true → read_transfer more ≡ reads x mid → new ≡ out ++ x ∷ [] → Going semicolon read_transfer whole new mid
transfer_on whole out new ts more x mid g behind b h is = go_on semicolon read_transfer whole out new ts x mid transfer_shorter g b (ap read_transfer (sym (behind_sign semicolon ts more behind b)) ∙ h) is

pub transfer_end : (whole : List Token) (out : List SslTransfer) (ts more : List Token) → Going semicolon read_transfer whole out ts → more ≡ without semicolon ts → begins semicolon ts ≡ false → items semicolon read_transfer whole ≡ reads out more
transfer_end whole out ts more g behind b = go_end semicolon read_transfer whole out ts g b ∙ ap (λ m. reads out m) (sym (no_sign semicolon ts more behind b))

pub transfer_stops : (whole : List Token) (out : List SslTransfer) (ts behind : List Token) (stop : Stop) (rest more : List Token) → Going semicolon read_transfer whole out ts → behind ≡ without semicolon ts → begins semicolon ts ≡ true → Told {A = SslTransfer} (Err stop) rest (read_transfer behind) → Told {A = List SslTransfer} (Err stop) more (items semicolon read_transfer whole)
transfer_stops whole out ts behind stop rest more g is b h =
    go_stops semicolon read_transfer whole out ts stop rest more g b (subst (λ us. Told {A = SslTransfer} (Err stop) rest (read_transfer us)) (behind_sign semicolon ts behind is b) h)

pub transfer_first_stops : (whole : List Token) (stop : Stop) (rest more : List Token) → Told {A = SslTransfer} (Err stop) rest (read_transfer whole) → Told {A = List SslTransfer} (Err stop) more (items semicolon read_transfer whole)
transfer_first_stops whole stop rest more h = first_stops semicolon read_transfer whole stop rest more h

pub transfer_falls : (ts more : List Token) (x : SslTransfer) (mid : List Token) → more ≡ without semicolon ts → begins semicolon ts ≡ true → read_transfer more ≡ reads x mid → length mid < length ts
transfer_falls ts more x mid behind b h = item_falls semicolon read_transfer ts more x mid transfer_shorter behind b h

pub ruleset transfer_laws = (transfer_first, transfer_on, transfer_end, transfer_stops, transfer_first_stops)
