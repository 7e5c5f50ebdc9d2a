-- The listings, computed. Assumes nothing.
use Rattle.protocol.specs.Commands.{command_with_code}
use Rattle.worked_cases.specs.Protocol.{CommandsListed, UnknownCodes, ParametersListed, RefusalsListed}

pub commands_listed : CommandsListed
unfolding CommandsListed command_with_code
commands_listed = search

pub unknown_codes : UnknownCodes
unfolding UnknownCodes command_with_code
unknown_codes = search

pub parameters_listed : ParametersListed
unfolding ParametersListed
parameters_listed = search

pub refusals_listed : RefusalsListed
unfolding RefusalsListed
refusals_listed = search
