-- What a sweep's frames ask of tags, and which serial number stands in a reply. Assumes nothing.
use Rattle.std.proofs.Common.{◌≡◌, ℕ, ◌+◌, ◌-◌, List, [], ◌∷◌, ◌++◌, length, get_or, take, drop, replicate, Some, refl, ap, ◌∙◌, ap₂, arith}
use Rattle.std.proofs.lemmas.List.{take_at, drop_at, length-append, append_assoc}
use Rattle.crc.specs.Check.{moved_up, bit_taken, bits, byte_taken, high_byte_first, check_value, sealed}
use Rattle.protocol.specs.declared.command.Command.TheVariants.{Read}
use Rattle.protocol.specs.Commands.{layout, command_with_code}
use Rattle.frame.specs.Openings.{opened, opening, is_sealed, without_check_value, parameters_of}
use Rattle.frame.specs.Parts.{placed}
use Rattle.frame.proofs.Opens.{opens}
use Rattle.frame.proofs.Seals.{front-sealed}
use Rattle.frame.proofs.Trips.{sealed-length, is-sealed, first_byte}
use Rattle.tag.specs.Orders as orders
use Rattle.tag.specs.Orders.{order_in}
use Rattle.field.specs.declared.hearing.Hearing.TheVariants.{Lone}
use Rattle.field.specs.Airs.{one}
use Rattle.field.specs.Sends.{padded}
use Rattle.slot.specs.Commands.{word, target, select, query, scroll, repeat, read, serial_in}

pub order-select : order_in (opening select) ≡ orders.select 0x00 0xc0 word
unfolding select opening is_sealed without_check_value parameters_of command_with_code moved_up bit_taken bits byte_taken sealed
order-select = refl

pub order-query : order_in (opening query) ≡ orders.query
unfolding query opening is_sealed without_check_value parameters_of command_with_code moved_up bit_taken bits byte_taken sealed
order-query = refl

pub order-scroll : order_in (opening scroll) ≡ orders.scroll
unfolding scroll opening is_sealed without_check_value parameters_of command_with_code moved_up bit_taken bits byte_taken sealed
order-scroll = refl

pub order-again : order_in (opening repeat) ≡ orders.repeat
unfolding repeat opening is_sealed without_check_value parameters_of command_with_code moved_up bit_taken bits byte_taken sealed
order-again = refl

named_read : command_with_code 0x0c ≡ Some Read
unfolding command_with_code
named_read = refl

-- The serial number and the address lie where they were placed.
order-placed : (serial : List ℕ) → length serial ≡ 8 → order_in (opened 0x0c Read (placed 1 (layout Read) (target serial))) ≡ orders.read serial 0x00 8
order-placed serial h =
    ap₂ (λ (s : List ℕ) (rest : List ℕ). orders.read s (get_or (take 1 rest) 0 0) 8) (take_at serial (0x00 ∷ []) 8 h) (drop_at serial (0x00 ∷ []) 8 h)

pub order-read : (serial : List ℕ) → length serial ≡ 8 → order_in (opening (read serial)) ≡ orders.read serial 0x00 8
unfolding read parameters_of
order-read serial h =
    let parameters : List ℕ = target serial in
    let frame : List ℕ = sealed (0x0c ∷ parameters) in
    let count : length parameters ≡ 9 = length-append serial (0x00 ∷ []) ∙ omega arith in
    let long : length frame ≡ 12 = omega (arith, sealed-length (0x0c ∷ parameters)) in
    ap order_in
    (opens frame (omega arith) (is-sealed (0x0c ∷ parameters)) Read (ap command_with_code (first_byte 0x0c parameters) ∙ named_read) long
    ∙ ap (λ (message : List ℕ). opened 0x0c Read (placed 1 (layout Read) (drop 1 message))) (front-sealed (0x0c ∷ parameters)))
    ∙ order-placed serial h

-- A reply of a serial number is heard as that serial number.
pub serial_heard : (serial : List ℕ) → length serial ≡ 8 → serial_in Lone (one (sealed serial)) ≡ serial
unfolding serial_in padded sealed
serial_heard serial h =
    let v : List ℕ = high_byte_first (check_value serial) in
    ap (take 8) (append_assoc serial v (replicate (258 - length (serial ++ v)) 0))
    ∙ take_at serial (v ++ replicate (258 - length (serial ++ v)) 0) 8 h
