-- Addresses, and texts that are none.
use Rattle.std.proofs.Common.{◌≡◌, Bool, true, false, refl}
use Rattle.std.specs.Prelude.{codes}
use Rattle.real_ends.specs.Addresses.{is_address, parts_at}

of_a_host : is_address (codes "127.0.0.1:65535") ≡ true
unfolding parts_at
of_a_host = refl

of_brackets : is_address (codes "[::1]:1") ≡ true
unfolding parts_at
of_brackets = refl

of_no_host : is_address (codes ":7000") ≡ false
unfolding parts_at
of_no_host = refl

of_no_port : is_address (codes "localhost") ≡ false
unfolding parts_at
of_no_port = refl

of_zero : is_address (codes "127.0.0.1:0") ≡ false
unfolding parts_at
of_zero = refl

of_a_sign : is_address (codes "x:+48397") ≡ false
unfolding parts_at
of_a_sign = refl

of_leading_zeros : is_address (codes "x:007000") ≡ false
unfolding parts_at
of_leading_zeros = refl

of_more_than_16_bits : is_address (codes "x:65536") ≡ false
unfolding parts_at
of_more_than_16_bits = refl
