-- A channel as `{:02x}` writes it.
use Rattle.std.proofs.Common.{◌≡◌, ℕ, ◌<◌, ◌-◌, ◌^◌, [], false}
use Rattle.std.specs.Fmt.{digits, format_spec, padded_integral}
use Rattle.std.proofs.lemmas.Fmt.{hex_byte}
use Rattle.witness_text.specs.TintText.{channel_text}

pub padded_channel : (n : ℕ) → n < 256 → padded_integral (format_spec 32 0 4 2 (2 ^ 64 - 1)) false [] (digits 16 false n) ≡ channel_text n
padded_channel n small = hex_byte false n small
